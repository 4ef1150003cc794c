use Rattle.std.proofs.Common.{◌≡◌, ◌∙◌, ap, length, sym}
use Rattle.std.specs.Prelude.{List, Some, position}
use Rattle.zst_map.specs.drd_rdata.Order.{rdata_eq}
use Rattle.zst_map.specs.zst_record.RecordSets.{put_record}
use Rattle.zst_map.specs.zst_record.declared.records.Record.{Record}
use Rattle.zst_draft.specs.SetDrafts.{records_in}
use Rattle.zst_draft.proofs.DraftedRecords.{length_records}
use Rattle.zst_draft.proofs.DraftedTypes.{place_below}
use Rattle.zst_draft.proofs.set.SetDraft.with.Goals as goal

pub put-requires-clause-place : goal.put-requires-clause-place
put-requires-clause-place c =
    let stored = c.args.stored.now in
    let same : records_in stored (Some c.in-Ok.draft) ≡ records_in stored c.args.self.now.records = c.in-Ok.ensures.records ∙ ap (records_in stored) c.take.ensures.value in
    place_below (λ (s : Record). rdata_eq s.rdata c.args.next.rdata) (records_in stored c.args.self.now.records) c.place_of-place.result c.in-Ok.draft.len c.place_of-place.ensures
    (sym (ap length same) ∙ length_records stored c.in-Ok.draft c.in-Ok.ensures.draft)

pub returns-clause-records : goal.returns-clause-records
returns-clause-records c =
    let stored = c.args.stored.now in
    let same : records_in stored (Some c.in-Ok.draft) ≡ records_in stored c.args.self.now.records = c.in-Ok.ensures.records ∙ ap (records_in stored) c.take.ensures.value in
    c.in_ok-put.ensures.records stored c.in-Ok.ensures.draft
    (c.place_of-place.ensures ∙ ap (position (λ (s : Record). rdata_eq s.rdata c.args.next.rdata)) (sym same))
    ∙ ap (λ (l : List Record). put_record l c.args.next) same
