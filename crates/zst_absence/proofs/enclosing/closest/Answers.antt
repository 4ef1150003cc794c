use Rattle.std.proofs.Common.{◌≡◌, ◌∙◌, ℕ, ap, arith, sym}
use Rattle.std.specs.Prelude.{false}
use Rattle.std.proofs.lemmas.Grind.{common_steps}
use Rattle.zst_map.specs.zst_handler.Zones.{exists_in}
use Rattle.zst_map.specs.zst_key.Ancestors.{up}
use Rattle.zst_absence.specs.Absences.{depth}
use Rattle.zst_absence.proofs.Enclosers.{closest_absent}
use Rattle.zst_absence.proofs.enclosing.closest.Goals as goal

pub returns-then-not-branch : goal.returns-then-not-branch
returns-then-not-branch c =
    let sets = c.args.sets.now in
    let origin = c.args.origin.now in
    let name = c.args.name.now in
    let off : c.in_ok-exists_above-2.field-0 ≡ false = grind (arith, common_steps, c.if-not-branch.true) in
    let none : exists_in sets (up name (depth origin name)) ≡ false
    = ap (λ (n : ℕ). exists_in sets (up name n)) (sym c.depth-highest.ensures) ∙ sym c.in_ok-exists_above-2.ensures ∙ off in
    closest_absent sets origin name none
