use Rattle.std.specs.Prelude.{◌≡◌, ◌&&◌, ◌||◌, is_some, not}
use Rattle.std.specs.List.{AllByRecursion}
use Rattle.zst_absence.specs.dnw_codes.declared.record_type.RecordType.{RecordType}
use Rattle.zst_absence.specs.dnw_name.DomainName.{DomainName}
use Rattle.zst_absence.specs.zst_handler.Zones.{AreInOrder, rrset_at}
use Rattle.zst_absence.specs.zst_denial.Kept.{is_circle_type}
use Rattle.zst_circle.specs.Resigning.{Resigns}
use Rattle.zst_circle.specs.Moves.{placeholder_of}
use Rattle.zst_circle.proofs.moves.placeholders.Given as goal

abbrev pub invariant-sets : goal.invariant-sets
invariant-sets g l =
    ((name : DomainName) (t : RecordType) → (is_some (rrset_at l.new name t) || (is_some (rrset_at l.set-iterator name t) && not (is_circle_type t))) ≡ (is_some (rrset_at l.old name t) && not (is_circle_type t)))
    × ((name : DomainName) (t : RecordType) → (is_some (placeholder_of l.list.items name t) || (is_some (rrset_at l.set-iterator name t) && not (is_circle_type t))) ≡ (is_some (rrset_at l.old name t) && not (is_circle_type t)))
    × AllByRecursion (Resigns g.K.ZoneSigner.gives g.K.ZoneSigner.fails l.keys l.now l.old l.origin) l.list.items
    × AreInOrder l.new
