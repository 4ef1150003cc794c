use Rattle.std.proofs.Common.{◌≡◌, ◌-◌, arith, rules, length, take, drop, sym, subst}
use Rattle.std.proofs.lemmas.List.{take_all, length-drop}
use Rattle.std.specs.Io.KnownBytes.{Appends}
use Rattle.std.proofs.KnownBytes.{Appends-trans}
use lib.Seq.{take-add}
use Rattle.authority_server.proofs.stream.put.Goals as goal

pub writing-preserved : goal.writing-preserved
writing-preserved g c =
    let rest = drop c.writing.at c.args.octets.now in
    let all : take (length c.args.octets.now - c.writing.at) rest ≡ rest = take_all (length c.args.octets.now - c.writing.at) rest (omega (arith, length-drop c.writing.at c.args.octets.now)) in
    let wrote = rw all at c.in-Some.ensures.bytes.2 in
    record {
      within = search rules;
      well = search rules;
      written = subst (Appends _ _) (sym (take-add c.writing.at c.in-Some.count c.args.octets.now)) (Appends-trans _ _ _ _ _ c.writing.invariant.written wrote);
    }
