use Rattle.zst_draft.proofs.DraftedRecords.{IsOverFirst}
use Rattle.zst_draft.proofs.records.RecordsDraft.over.Given as goal

abbrev pub invariant-loop-place : goal.invariant-loop-place
invariant-loop-place l = IsOverFirst l.stored l.place l.draft
