use Rattle.std.proofs.Common.{◌≡◌, ◌<◌, length, inr, arith}
use Rattle.std.proofs.lemmas.Bool.Decides.{nat_tests}
use Rattle.drd_param_keys.specs.Entries.{text_octets}
use Rattle.drd_param_keys.proofs.NoLists.{no-protocols-empty, no-protocols, some-some}
use Rattle.drd_param_keys.proofs.read.read_alpn.Goals as goal

pub returns-then-is_empty-clause-refused : goal.returns-then-is_empty-clause-refused
returns-then-is_empty-clause-refused c =
    let empty : length c.args.octets.now ≡ 0 = grind (arith, nat_tests) in
    inr (no-protocols-empty c.args.octets.now empty)

pub returns-in-Ok-clause-ok : goal.returns-in-Ok-clause-ok
returns-in-Ok-clause-ok c =
    let some : 0 < length c.args.octets.now = grind (arith, nat_tests) in
    ((some-some text_octets c.in-Ok.found.items c.args.octets.now c.in-Ok.ensures.ok some, c.in-Ok.ensures.valid), c.in-Ok.ensures.ok)

pub returns-in-Err-clause-refused : goal.returns-in-Err-clause-refused
returns-in-Err-clause-refused c = no-protocols c.args.octets.now c.in-Err.refused c.in-Err.ensures.refused
