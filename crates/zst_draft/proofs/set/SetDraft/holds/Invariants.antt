use Rattle.std.proofs.Common.{◌≡◌, drop}
use Rattle.zst_map.specs.zst_record.RecordSets.{holds}
use Rattle.zst_draft.specs.SetDrafts.{records_in}
use Rattle.zst_draft.proofs.set.SetDraft.holds.Given as goal

abbrev pub invariant-loop-at : goal.invariant-loop-at
invariant-loop-at l = holds (records_in l.stored l.self.records) l.next ≡ holds (drop l.at (records_in l.stored l.self.records)) l.next
