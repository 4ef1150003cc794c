use Rattle.std.proofs.Common.{◌≡◌, ◌∙◌, length, subst, sym}
use Rattle.std.specs.Prelude.{Option}
use Rattle.zst_draft.specs.SetDrafts.{IsDraftOf, records_in}
use Rattle.zst_draft.specs.declared.records.RecordsDraft.{RecordsDraft}
use Rattle.zst_draft.proofs.DraftedRecords.{length_records}
use Rattle.zst_draft.proofs.set.SetDraft.len.Goals as goal

pub returns-in-Some : goal.returns-in-Some
returns-in-Some c =
    subst (λ (d : Option RecordsDraft). c.len.result ≡ length (records_in c.args.stored.now d)) (sym c.in-Some.is)
    (c.len.ensures ∙ sym (length_records c.args.stored.now c.in-Some.draft (subst (IsDraftOf c.args.stored.now) c.in-Some.is c.requires)))
