use Rattle.std.proofs.Common.{◌≡◌}
use Rattle.std.specs.Prelude.{option_copied}
use Rattle.std.proofs.lemmas.Result.{IfOk-weaker}
use Rattle.zst_map.specs.Preceding.{FindsPreceding}
use Rattle.zst_map.specs.dnw_codes.declared.record_type.RecordType.TheVariants as kind
use Rattle.zst_map.specs.zst_handler.Zones.{Zone}
use Rattle.zst_absence.specs.Absences.{IsForWildcard, IsZoneOf}
use Rattle.zst_absence.proofs.Denied.{wildcard_none, wildcard_some}
use Rattle.zst_absence.proofs.by_name.set_for_wildcard.Goals as goal

pub returns-in_default : goal.returns-in_default
returns-in_default c =
    wildcard_none c.args.sets.now c.args.origin.now c.args.name.now (rw c.in_default.is at c.in_ok-closer.ensures)

pub returns : goal.returns
returns c =
    let sets = c.args.sets.now in
    let origin = c.args.origin.now in
    let name = c.args.name.now in
    IfOk-weaker c.set_before.result (λ set. FindsPreceding sets kind.NSEC c.in_ok-star.star (option_copied set))
    (λ set. (zone : Zone) → IsZoneOf sets origin zone → IsForWildcard zone name (option_copied set))
    (λ set p. wildcard_some sets origin name c.in-Some.closer c.in_ok-star.star (option_copied set) (rw c.in-Some.is at c.in_ok-closer.ensures) c.in_ok-star.ensures p)
    c.set_before.ensures
