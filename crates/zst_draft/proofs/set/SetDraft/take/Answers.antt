use Rattle.std.proofs.Common.{◌≡◌, ◌∙◌, ap, arith, length, subst, sym}
use Rattle.std.specs.Prelude.{List, Some, [], false, position}
use Rattle.std.specs.List.{remove}
use Rattle.zst_map.specs.drd_rdata.Order.{rdata_eq}
use Rattle.zst_map.specs.zst_handler.Zones.{rrset_at}
use Rattle.zst_map.specs.zst_record.RecordSets.{held_set, keeps_last}
use Rattle.zst_map.specs.zst_record.declared.records.Record.{Record}
use Rattle.zst_draft.specs.SetDrafts.{IsRecordsDraft, filled, records_in, records_of, set_in}
use Rattle.zst_draft.proofs.DraftedRecords.{length_records}
use Rattle.zst_draft.proofs.SetDrafts.{held_by, last_kept, missing_kept, one_taken}
use Rattle.zst_draft.proofs.TakenRecords.{found_equal, none_equal}
use Rattle.zst_draft.proofs.set.SetDraft.take.Goals as goal

pub returns-then-keeps_last-clause-changed : goal.returns-then-keeps_last-clause-changed
returns-then-keeps_last-clause-changed c =
    let t = c.args.self.now.record_type in
    let stored = rrset_at c.args.sets.now c.args.key.now t in
    let d = c.args.self.now.records in
    sym (last_kept (set_in stored c.args.self.now) t (records_in (records_of stored) d) c.args.change.now (held_by stored t d c.requires)
    (sym (ap (λ (l : List Record). keeps_last (held_set t false (records_in l d) [])) c.stored_records-stored.ensures) ∙ sym c.keeps_last.ensures ∙ c.if-keeps_last.true)).changed

pub returns-then-keeps_last-clause-set : goal.returns-then-keeps_last-clause-set
returns-then-keeps_last-clause-set c =
    let t = c.args.self.now.record_type in
    let stored = rrset_at c.args.sets.now c.args.key.now t in
    let d = c.args.self.now.records in
    sym (last_kept (set_in stored c.args.self.now) t (records_in (records_of stored) d) c.args.change.now (held_by stored t d c.requires)
    (sym (ap (λ (l : List Record). keeps_last (held_set t false (records_in l d) [])) c.stored_records-stored.ensures) ∙ sym c.keeps_last.ensures ∙ c.if-keeps_last.true)).set

pub returns-in_default-clause-changed : goal.returns-in_default-clause-changed
returns-in_default-clause-changed c =
    let t = c.args.self.now.record_type in
    let stored = rrset_at c.args.sets.now c.args.key.now t in
    let d = c.args.self.now.records in
    sym (missing_kept (set_in stored c.args.self.now) t (records_in (records_of stored) d) c.args.change.now (held_by stored t d c.requires)
    (none_equal (records_in (records_of stored) d) c.args.change.now.rdata
    (c.in_default.ensures ∙ ap (λ (l : List Record). position (λ (s : Record). rdata_eq s.rdata c.args.change.now.rdata) (records_in l d)) c.stored_records-stored.ensures))).changed

pub returns-in_default-clause-set : goal.returns-in_default-clause-set
returns-in_default-clause-set c =
    let t = c.args.self.now.record_type in
    let stored = rrset_at c.args.sets.now c.args.key.now t in
    let d = c.args.self.now.records in
    sym (missing_kept (set_in stored c.args.self.now) t (records_in (records_of stored) d) c.args.change.now (held_by stored t d c.requires)
    (none_equal (records_in (records_of stored) d) c.args.change.now.rdata
    (c.in_default.ensures ∙ ap (λ (l : List Record). position (λ (s : Record). rdata_eq s.rdata c.args.change.now.rdata) (records_in l d)) c.stored_records-stored.ensures))).set

pub remove-requires-clause-at : goal.remove-requires-clause-at
remove-requires-clause-at c =
    let stored = c.stored_records-stored.result.now in
    let found = found_equal (records_in stored c.args.self.now.records) c.args.change.now.rdata c.in-Some.place c.in-Some.ensures in
    let same : records_in stored (Some c.in_ok-draft.draft) ≡ records_in stored c.args.self.now.records = c.in_ok-draft.ensures.records ∙ ap (records_in stored) c.take.ensures.value in
    let long = length_records stored c.in_ok-draft.draft c.in_ok-draft.ensures.draft in
    omega (arith, found.within, ap length same, long)

pub returns-clause-changed : goal.returns-clause-changed
returns-clause-changed c =
    let t = c.args.self.now.record_type in
    let stored = rrset_at c.args.sets.now c.args.key.now t in
    let d = c.args.self.now.records in
    let found = found_equal (records_in (records_of stored) d) c.args.change.now.rdata c.in-Some.place
    (c.in-Some.ensures ∙ ap (λ (l : List Record). position (λ (s : Record). rdata_eq s.rdata c.args.change.now.rdata) (records_in l d)) c.stored_records-stored.ensures) in
    sym (one_taken (set_in stored c.args.self.now) t (records_in (records_of stored) d) c.args.change.now c.in-Some.place (held_by stored t d c.requires)
    (sym (ap (λ (l : List Record). keeps_last (held_set t false (records_in l d) [])) c.stored_records-stored.ensures) ∙ sym c.keeps_last.ensures ∙ c.if-keeps_last.false) found).changed

pub returns-clause-set : goal.returns-clause-set
returns-clause-set c =
    let t = c.args.self.now.record_type in
    let stored = rrset_at c.args.sets.now c.args.key.now t in
    let d = c.args.self.now.records in
    let found = found_equal (records_in (records_of stored) d) c.args.change.now.rdata c.in-Some.place
    (c.in-Some.ensures ∙ ap (λ (l : List Record). position (λ (s : Record). rdata_eq s.rdata c.args.change.now.rdata) (records_in l d)) c.stored_records-stored.ensures) in
    let same : records_in c.stored_records-stored.result.now (Some c.in_ok-draft.draft) ≡ records_in c.stored_records-stored.result.now d =
    c.in_ok-draft.ensures.records ∙ ap (records_in c.stored_records-stored.result.now) c.take.ensures.value in
    let same_stored : records_in (records_of stored) (Some c.in_ok-draft.draft) ≡ records_in (records_of stored) d =
    subst (λ (l : List Record). records_in l (Some c.in_ok-draft.draft) ≡ records_in l d) c.stored_records-stored.ensures same in
    let is : IsRecordsDraft (length (records_of stored)) c.in_ok-draft.draft =
    subst (λ (l : List Record). IsRecordsDraft (length l) c.in_ok-draft.draft) c.stored_records-stored.ensures c.in_ok-draft.ensures.draft in
    ap (filled t) (c.remove.ensures.records (records_of stored) is ∙ ap (λ (l : List Record). remove l c.in-Some.place) same_stored)
    ∙ sym (one_taken (set_in stored c.args.self.now) t (records_in (records_of stored) d) c.args.change.now c.in-Some.place (held_by stored t d c.requires)
    (sym (ap (λ (l : List Record). keeps_last (held_set t false (records_in l d) [])) c.stored_records-stored.ensures) ∙ sym c.keeps_last.ensures ∙ c.if-keeps_last.false) found).set
