use Rattle.std.proofs.Common.{◌≡◌, ◌∙◌, ap, subst, sym}
use Rattle.std.specs.Prelude.{List, Option, Some, None, []}
use Rattle.zst_map.specs.zst_record.Drafts.{drafted}
use Rattle.zst_map.specs.zst_record.RecordSets.{IsHeld, RRset, held_set}
use Rattle.zst_map.specs.zst_record.declared.draft.Draft.{Draft}
use Rattle.zst_map.specs.zst_record.declared.records.Record.{Record}
use Rattle.std.specs.Prelude.{false}
use Rattle.zst_draft.specs.SetDrafts.{has_records, records_in, set_by}
use Rattle.zst_draft.specs.Settling.{IsOverStored, IsSetOf}
use Rattle.zst_draft.specs.declared.records.RecordsDraft.{RecordsDraft}
use Rattle.zst_draft.proofs.SetDrafts.{TakenSet, taken_set}
use Rattle.zst_draft.proofs.set.SetDraft.take_set.Goals as goal

taken : (c : goal.After-into_list) → TakenSet c.args.self.now.record_type c.in-Some.draft
taken c =
    let records : c.args.self.now.records ≡ Some c.in-Some.draft = sym c.take.ensures.value ∙ c.in-Some.is in
    taken_set c.requires.set.0 c.args.self.now.record_type c.in-Some.draft
    (subst (IsOverStored None) records c.requires.draft)
    (sym (ap has_records records) ∙ sym c.has_records.ensures ∙ c.if-not-has_records.false)
    (subst (λ (d : Option RecordsDraft). IsSetOf c.requires.set.0 (set_by None c.args.self.now.record_type d)) records c.requires.set.1)

same_list : (c : goal.After-into_list)
    → drafted c.new-set.result.records c.into_list.result.places.items c.into_list.result.items.items ≡ records_in [] (Some c.in-Some.draft)
same_list c =
    ap (λ (set : RRset). drafted set.records c.into_list.result.places.items c.into_list.result.items.items) c.new-set.ensures
    ∙ ap (λ (list : Draft Record). drafted [] list.places.items list.items.items) c.into_list.ensures

pub settle-requires-clause-held : goal.settle-requires-clause-held
settle-requires-clause-held c =
    subst (λ (l : List Record). IsHeld c.args.self.now.record_type false l []) (sym (same_list c)) (taken c).held

pub returns-clause-set : goal.returns-clause-set
returns-clause-set c =
    let records : c.args.self.now.records ≡ Some c.in-Some.draft = sym c.take.ensures.value ∙ c.in-Some.is in
    let is_taken : TakenSet c.args.self.now.record_type c.in-Some.draft =
    taken_set c.requires.set.0 c.args.self.now.record_type c.in-Some.draft
    (subst (IsOverStored None) records c.requires.draft)
    (sym (ap has_records records) ∙ sym c.has_records.ensures ∙ c.if-not-has_records.false)
    (subst (λ (d : Option RecordsDraft). IsSetOf c.requires.set.0 (set_by None c.args.self.now.record_type d)) records c.requires.set.1) in
    let same : drafted c.new-set.result.records c.into_list.result.places.items c.into_list.result.items.items ≡ records_in [] (Some c.in-Some.draft) =
    ap (λ (set : RRset). drafted set.records c.into_list.result.places.items c.into_list.result.items.items) c.new-set.ensures
    ∙ ap (λ (list : Draft Record). drafted [] list.places.items list.items.items) c.into_list.ensures in
    ap Some c.settle.ensures
    ∙ ap (λ (l : List Record). Some (held_set c.args.self.now.record_type false l [])) same
    ∙ sym is_taken.set
    ∙ ap (set_by None c.args.self.now.record_type) (sym records)
