use Rattle.std.proofs.Common.{◌<◌, ap, arith, sym, length, ◌∙◌}
use Rattle.std.proofs.lemmas.Grind.{common_steps}
use Rattle.std.specs.Cmp.Lexicographic.{same_text}
use Rattle.zst_pointing.proofs.Owners.{owner_all}
use Rattle.zst_pointing.proofs.records.owner_pointer.Goals as goal

pub returns-then-eq-clause-points : goal.returns-then-eq-clause-points
returns-then-eq-clause-points c =
    let labels = c.as_octets-labels.result.now in
    let all = c.as_octets-all.result.now in
    let some : 0 < length labels = grind (arith, common_steps, c.if-is_empty.false, c.is_empty.ensures) in
    owner_all c.args.asked.now c.args.owner.now c.as_octets-all.ensures.name c.as_octets-labels.ensures.name
    (sym c.as_octets-labels.ensures.octets ∙ same_text labels all (sym (sym c.eq.ensures ∙ c.if-eq.true)) ∙ c.as_octets-all.ensures.octets)
    (omega (arith, some, ap length c.as_octets-labels.ensures.octets))
