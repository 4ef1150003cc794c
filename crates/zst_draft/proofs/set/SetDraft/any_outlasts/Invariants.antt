use Rattle.std.proofs.Common.{◌≡◌, drop}
use Rattle.std.specs.List.{list_any}
use Rattle.zst_map.specs.zst_record.RecordSets.{outlasts}
use Rattle.zst_draft.specs.SetDrafts.{records_in}
use Rattle.zst_draft.proofs.set.SetDraft.any_outlasts.Given as goal

abbrev pub invariant-loop-at : goal.invariant-loop-at
invariant-loop-at l =
    list_any (λ s. outlasts s.rdata l.rdata) (records_in l.stored l.self.records)
    ≡ list_any (λ s. outlasts s.rdata l.rdata) (drop l.at (records_in l.stored l.self.records))
