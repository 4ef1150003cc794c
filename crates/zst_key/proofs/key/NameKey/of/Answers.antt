use Rattle.std.proofs.Common.{◌∙◌, ap}
use Rattle.zst_key.specs.NameKeys.{name_of_key}
use Rattle.zst_key.proofs.KeyLemmas.{name-read, is-key}
use Rattle.zst_key.proofs.key.NameKey.of.Goals as goal

pub invariant_of-result : goal.invariant_of-result
invariant_of-result c = is-key c.in_ok-octets.octets.items c.args.name.now c.in_ok-octets.ensures.key

pub returns-clause-key : goal.returns-clause-key
returns-clause-key c = ap name_of_key c.in_ok-octets.ensures.key ∙ name-read c.args.name.now
