-- A stored set is edited in place, or taken out, as its draft has it.
use Rattle.std.proofs.Common.{◌≡◌, ◌<◌, refl, ap, sym, ◌∙◌, arith, length, subst}
use Rattle.std.specs.Prelude.{false, List, [], ◌∷◌, Option, Some, None, IsSome}
use Rattle.std.proofs.lemmas.Bool.{and_parts, eq-eqb, eqb-true, true≢false}
use Rattle.zst_map.specs.dnw_codes.RecordType.{record_type_number, same_record_type}
use Rattle.zst_map.specs.dnw_name.DomainName.{DomainName, name_eq}
use Rattle.zst_map.specs.Edits.{CanEdit, edited}
use Rattle.zst_map.specs.declared.edit.Edit.TheVariants as edits
use Rattle.zst_map.specs.zst_handler.Zones.{rrset_at}
use Rattle.zst_map.specs.zst_record.RecordSets.{RRset, first_name, held_set}
use Rattle.zst_map.specs.zst_record.declared.draft.Draft.{Draft}
use Rattle.zst_map.specs.zst_record.declared.records.Record.{Record}
use Rattle.zst_zone.proofs.ReadBack.{found_is}
use Rattle.zst_draft.specs.SetDrafts.{IsRecordsDraft, filled, records_in, records_of, set_by, set_in}
use Rattle.zst_draft.specs.Settling.{CanSettle, IsOverStored, IsSetOf}
use Rattle.zst_draft.specs.declared.records.RecordsDraft.{RecordsDraft}
use Rattle.zst_draft.specs.declared.set.SetDraft.{SetDraft}
use Rattle.zst_draft.proofs.DraftedRecords.{length_records}
use Rattle.zst_draft.proofs.Names.{chained, flipped}
use Rattle.zst_draft.proofs.SetDrafts.{filled_long_some, none_drafted}

some_is : (o : Option RRset) → IsSome o → (set : RRset) × (o ≡ Some set)
some_is None some = absurd (true≢false (sym some))
some_is (Some set) some = (set, refl)

module _ (sets : List RRset) (key : DomainName) (e : SetDraft) (draft : RecordsDraft) (is : e.records ≡ Some draft) (can : CanSettle sets key e) where
  abbrev stored : Option RRset
  stored = rrset_at sets key e.record_type

  over : IsRecordsDraft (length (records_of (rrset_at sets key e.record_type))) draft
  over = subst (IsOverStored (rrset_at sets key e.record_type)) is can.is

  drafted_is : set_in (rrset_at sets key e.record_type) e ≡ filled e.record_type (records_in (records_of (rrset_at sets key e.record_type)) (Some draft))
  drafted_is = ap (set_by (rrset_at sets key e.record_type) e.record_type) is

  -- Without records it is none.
  pub emptied : draft.len ≡ 0 → None ≡ set_in (rrset_at sets key e.record_type) e
  emptied none = sym (drafted_is ∙ ap (filled e.record_type) (none_drafted (records_of (rrset_at sets key e.record_type)) draft over none))

  module _ (some : draft.len ≡ 0 → ⊥) where
    long : length (records_in (records_of (rrset_at sets key e.record_type)) (Some draft)) ≡ 0 → ⊥
    long none = some (sym (length_records (records_of (rrset_at sets key e.record_type)) draft over) ∙ none)

    set_is : set_in (rrset_at sets key e.record_type) e ≡ Some (held_set e.record_type false (records_in (records_of (rrset_at sets key e.record_type)) (Some draft)) [])
    set_is = drafted_is ∙ filled_long_some e.record_type (records_in (records_of (rrset_at sets key e.record_type)) (Some draft)) long

    -- The set that is stored, and that it can be edited.
    pub record Editable (list : Draft Record) : Type 0 where
      pub set : RRset
      pub there : rrset_at sets key e.record_type ≡ Some set
      pub can_edit : CanEdit (edits.Settle e.record_type list) set
      pub edits_to : Some (edited (edits.Settle e.record_type list) set) ≡ set_in (rrset_at sets key e.record_type) e

    above : {X : Type 0} (xs : List X) → (length xs ≡ 0 → ⊥) → 0 < length xs
    above [] none = absurd (none refl)
    above (x ∷ xs) none = omega arith

    editable_by : (set : RRset) → rrset_at sets key e.record_type ≡ Some set → Editable draft.list
    editable_by set there =
        let same : records_of (rrset_at sets key e.record_type) ≡ set.records = ap records_of there in
        let list : List Record = records_in set.records (Some draft) in
        let is_over : IsRecordsDraft (length set.records) draft = subst (λ (l : List Record). IsRecordsDraft (length l) draft) same over in
        let set_now : set_in (rrset_at sets key e.record_type) e ≡ Some (held_set e.record_type false list []) = set_is ∙ ap (λ (l : List Record). Some (held_set e.record_type false (records_in l (Some draft)) [])) same in
        let of : IsSetOf key (Some (held_set e.record_type false list [])) = subst (IsSetOf key) set_now can.set in
        let full : 0 < length list = above list (λ none. long (ap (λ (l : List Record). length (records_in l (Some draft))) same ∙ none)) in
        let at = and_parts (name_eq key set.name) (same_record_type set.record_type e.record_type) (found_is key e.record_type sets set there) in
        record {
          set = set;
          there = there;
          can_edit = (
            is_over.list,
            record { filled = full; is = of.0.is },
            chained (first_name list) key set.name (flipped key (first_name list) of.1) at.0,
            eq-eqb (record_type_number e.record_type) (record_type_number set.record_type) (sym (eqb-true (record_type_number set.record_type) (record_type_number e.record_type) at.1)),
          );
          edits_to = sym set_now;
        }

    pub editable : (list : Draft Record) → list ≡ draft.list → IsSome (rrset_at sets key e.record_type) → Editable list
    editable list same there =
        let found = some_is (rrset_at sets key e.record_type) there in
        subst Editable (sym same) (editable_by found.0 found.1)
