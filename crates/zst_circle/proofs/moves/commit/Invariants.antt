use Rattle.std.specs.List.{AllByRecursion}
use Rattle.std.specs.Vec.Iter.{into_iter_items}
use Rattle.zst_absence.specs.dnw_codes.declared.record_type.RecordType.{RecordType}
use Rattle.zst_absence.specs.dnw_name.DomainName.{DomainName}
use Rattle.zst_absence.specs.zst_handler.Zones.{AreInOrder, rrset_at}
use Rattle.zst_circle.specs.Moves.{CanMove, placeholder_of}
use Rattle.zst_circle.proofs.Moving.{Moves}
use Rattle.zst_circle.proofs.moves.commit.Given as goal

abbrev pub invariant-placeholders : goal.invariant-placeholders
invariant-placeholders l =
    AllByRecursion (CanMove l.initial.old l.initial.new) (into_iter_items l.placeholder-iterator)
    × ((name : DomainName) (t : RecordType) → Moves (placeholder_of l.fn.list.items name t) (placeholder_of (into_iter_items l.placeholder-iterator) name t)
    (rrset_at l.initial.old name t) (rrset_at l.initial.new name t) (rrset_at l.old name t) (rrset_at l.new name t))
    × AreInOrder l.new
