-- What the records of a draft are of the set of their type.
use Rattle.std.proofs.Common.{◌≡◌, ◌∙◌, ℕ, ◌<◌, refl, sym, ap, subst, arith, length}
use Rattle.std.specs.Prelude.{Bool, true, false, not, ◌&&◌, ◌==◌, List, [], ◌∷◌, Option, Some, None, IsSome, cond, is_some, option_copied}
use Rattle.std.specs.Borrow.{Bor}
use Rattle.std.specs.List.{list_any, remove}
use Rattle.std.proofs.lemmas.Bool.{true≢false, eqb-true, eqb-false}
use Rattle.zst_map.specs.dnw_codes.declared.dns_class.DNSClass.{DNSClass}
use Rattle.zst_map.specs.dnw_codes.declared.record_type.RecordType.{RecordType}
use Rattle.zst_map.specs.dnw_name.DomainName.{DomainName, name_eq}
use Rattle.zst_map.specs.drd_rdata.Order.{rdata_eq}
use Rattle.zst_map.specs.zst_handler.Updates.{joins, upserted}
use Rattle.zst_map.specs.zst_handler.Zones.{IsStored}
use Rattle.zst_map.specs.zst_record.RecordSets.{IsHeld, RRset, first_class, first_name, held_set, is_single, keeps_last, left_of, loses, none_left, put_record, removed, takes, with_one, without}
use Rattle.zst_map.specs.zst_record.declared.records.Record.{Record}
use Rattle.zst_map.proofs.PutRecords.{alone_is, set_put_is}
use Rattle.zst_draft.specs.SetDrafts.{IsDraftOf, IsRecordsDraft, IsSetBy, filled, has_records, if_some_left, is_filled_by, joined, loses_in, lost_in, records_in, records_of, set_by}
use Rattle.zst_draft.specs.Settling.{IsOverStored, IsSetOf}
use Rattle.zst_draft.specs.declared.records.RecordsDraft.{RecordsDraft}
use Rattle.zst_draft.proofs.DraftedRecords.{length_records}
use Rattle.zst_draft.proofs.TakenRecords.{FoundEqual}

-- ---- a set by its records
-- A stored set is that of its records and signatures.
pub stored_held : (set : RRset) → IsStored set → set ≡ held_set set.record_type false set.records set.signatures
stored_held set is = by set.records refl is.filled
  where
    by : (rs : List Record) → set.records ≡ rs → none_left rs ≡ false → set ≡ held_set set.record_type false set.records set.signatures
    by [] e some = absurd (true≢false some)
    by (r ∷ rs) e some =
        let spelled = is.is.spelled r rs e in
        ap (λ (n : DomainName). record set { name = n }) (spelled.0 ∙ sym (ap first_name e))
        ∙ ap (λ (c : DNSClass). record set { name = first_name set.records; dns_class = c }) (spelled.1 ∙ sym (ap first_class e))

abbrev pub held_or_none : RecordType → List Record → List Record → Option RRset
held_or_none t [] sigs = None
held_or_none t (r ∷ rs) sigs = Some (held_set t false (r ∷ rs) sigs)

-- It is the set of these records, with signatures.
pub record Held (o : Option RRset) (t : RecordType) (rs : List Record) : Type 0 where
  pub sigs : List Record
  pub is : o ≡ held_or_none t rs sigs

filled_held : (t : RecordType) (rs : List Record) → filled t rs ≡ held_or_none t rs []
filled_held t [] = refl
filled_held t (r ∷ rs) = refl

some_held : (t : RecordType) (rs sigs : List Record) → none_left rs ≡ false → Some (held_set t false rs sigs) ≡ held_or_none t rs sigs
some_held t [] sigs some = absurd (true≢false some)
some_held t (r ∷ rs) sigs some = refl

pub held_by : (stored : Option RRset) (t : RecordType) (d : Option RecordsDraft) → IsSetBy stored t d → Held (set_by stored t d) t (records_in (records_of stored) d)
held_by None t None is = absurd is
held_by (Some set) t None is = record {
  sigs = set.signatures;
  is = ap Some (stored_held set is.0) ∙ ap (λ (u : RecordType). Some (held_set u false set.records set.signatures)) (sym is.1)
      ∙ some_held t set.records set.signatures is.0.filled;
}
held_by stored t (Some draft) is = record { sigs = []; is = filled_held t (records_in (records_of stored) (Some draft)) }

pub draft_of : (stored : Option RRset) (t : RecordType) (d : Option RecordsDraft) → IsSetBy stored t d → IsDraftOf (records_of stored) d
draft_of stored t None is = tt
draft_of stored t (Some draft) is = is

none_long : (rs : List Record) → length rs ≡ 0 → rs ≡ []
none_long [] e = refl
none_long (r ∷ rs) e = absurd (omega (arith, e))

some_long : (rs : List Record) → none_left rs ≡ false → 0 < length rs
some_long [] some = absurd (true≢false some)
some_long (r ∷ rs) some = omega arith

long_some : (rs : List Record) → 0 < length rs → none_left rs ≡ false
long_some [] some = absurd (omega (arith, some))
long_some (r ∷ rs) some = refl

not_not : (b : Bool) → not b ≡ false → b ≡ true
not_not true e = refl
not_not false e = absurd (true≢false e)

not_false : (b : Bool) → not b ≡ true → b ≡ false
not_false true e = absurd (true≢false (sym e))
not_false false e = refl

pub none_drafted : (stored : List Record) (draft : RecordsDraft) → IsRecordsDraft (length stored) draft → draft.len ≡ 0 → records_in stored (Some draft) ≡ []
none_drafted stored draft is none = none_long (records_in stored (Some draft)) (length_records stored draft is ∙ none)

pub unfilled : (stored : Option RRset) (t : RecordType) (d : Option RecordsDraft) → IsSetBy stored t d → is_filled_by d ≡ false → set_by stored t d ≡ None
unfilled stored t None is e = absurd (true≢false e)
unfilled stored t (Some draft) is e = ap (filled t) (none_drafted (records_of stored) draft is (eqb-true draft.len 0 (not_not (draft.len == 0) e)))

above_none : (n : ℕ) → (n ≡ 0 → ⊥) → 0 < n
above_none n not_none = omega (arith, not_none)

pub filled_long : (stored : Option RRset) (t : RecordType) (d : Option RecordsDraft) → IsSetBy stored t d → is_filled_by d ≡ true → 0 < length (records_in (records_of stored) d)
filled_long None t None is e = absurd is
filled_long (Some set) t None is e = some_long set.records is.0.filled
filled_long stored t (Some draft) is e =
    let some : 0 < draft.len = above_none draft.len (eqb-false draft.len 0 (not_false (draft.len == 0) e)) in
    let long = length_records (records_of stored) draft is in
    omega (arith, some, long)

-- A set that has records is of the draft's type.
pub record IsOfType (o : Option RRset) (t : RecordType) : Type 0 where
  pub set : RRset
  pub is : o ≡ Some set
  pub kind : set.record_type ≡ t

filled_of : (t : RecordType) (rs : List Record) → 0 < length rs → IsOfType (filled t rs) t
filled_of t [] some = absurd (omega (arith, some))
filled_of t (r ∷ rs) some = record { set = held_set t false (r ∷ rs) []; is = refl; kind = refl }

pub filled_is : (stored : Option RRset) (t : RecordType) (d : Option RecordsDraft) → IsSetBy stored t d → is_filled_by d ≡ true → IsOfType (set_by stored t d) t
filled_is None t None is e = absurd is
filled_is (Some set) t None is e = record { set = set; is = refl; kind = sym is.1 }
filled_is stored t (Some draft) is e = filled_of t (records_in (records_of stored) (Some draft)) (filled_long stored t (Some draft) is e)

-- ---- a record is added
some_put : (rs : List Record) (r : Record) → none_left (put_record rs r) ≡ false
some_put [] r = refl
some_put (s ∷ rs) r = by (rdata_eq s.rdata r.rdata)
  where
    by : (b : Bool) → none_left (cond b (r ∷ rs) (s ∷ put_record rs r)) ≡ false
    by true = refl
    by false = refl

filled_some : (t : RecordType) (rs : List Record) → none_left rs ≡ false → filled t rs ≡ Some (held_set t false rs [])
filled_some t [] some = absurd (true≢false some)
filled_some t (r ∷ rs) some = refl

filled_joined : (t : RecordType) (rs sigs : List Record) (r : Record) → filled t (joined t rs r) ≡ Some (upserted (Some (held_set t false rs sigs)) r)
filled_joined t rs sigs r = by (is_single t) refl
  where
    by : (b : Bool) → is_single t ≡ b → filled t (cond b (r ∷ []) (put_record rs r)) ≡ Some (upserted (Some (held_set t false rs sigs)) r)
    by true e = ap Some (alone_is t true false rs sigs r refl) ∙ ap (λ (b : Bool). Some (with_one b (held_set t false rs sigs) r)) (sym e)
    by false e = filled_some t (put_record rs r) (some_put rs r) ∙ ap Some (set_put_is t rs sigs r) ∙ ap (λ (b : Bool). Some (with_one b (held_set t false rs sigs) r)) (sym e)

pub taken_held : (o : Option RRset) (t : RecordType) (rs : List Record) (r : Record) → Held o t rs → 0 < length rs → joins o r ≡ takes (held_set t false rs []) r
taken_held o t [] r held some = absurd (omega (arith, some))
taken_held o t (s ∷ rs) r held some = ap (λ (u : Option RRset). joins u r) held.is

pub joined_held : (o : Option RRset) (t : RecordType) (rs : List Record) (r : Record) → Held o t rs → 0 < length rs → filled t (joined t rs r) ≡ Some (upserted o r)
joined_held o t [] r held some = absurd (omega (arith, some))
joined_held o t (s ∷ rs) r held some = filled_joined t (s ∷ rs) held.sigs r ∙ ap (λ (u : Option RRset). Some (upserted u r)) (sym held.is)

-- ---- a record is taken out
keeps_lost : (set : RRset) (r : Record) → keeps_last set ≡ true → loses set r ≡ false
keeps_lost set r keeps = rw keeps refl

none_lost : (set : RRset) (r : Record) → list_any (λ s. rdata_eq s.rdata r.rdata) set.records ≡ false → loses set r ≡ false
none_lost set r none = by (keeps_last set) (list_any (λ s. rdata_eq s.rdata r.rdata) set.records) none
  where
    by : (b c : Bool) → c ≡ false → (not b && c) ≡ false
    by true c e = refl
    by false c e = e

one_lost : (set : RRset) (r : Record) → keeps_last set ≡ false → list_any (λ s. rdata_eq s.rdata r.rdata) set.records ≡ true → loses set r ≡ true
one_lost set r keeps there = rw (keeps, there) refl

-- Nothing is lost.
pub record Keeps (o : Option RRset) (r : Record) : Type 0 where
  pub changed : loses_in o r ≡ false
  pub set : lost_in o r ≡ o

keeps_by : (set : RRset) (r : Record) → loses set r ≡ false → Keeps (Some set) r
keeps_by set r none = record { changed = none; set = ap (λ (b : Bool). cond b (if_some_left (removed set r)) (Some set)) none }

pub last_kept : (o : Option RRset) (t : RecordType) (rs : List Record) (r : Record) → Held o t rs → keeps_last (held_set t false rs []) ≡ true → Keeps o r
last_kept o t [] r held keeps = subst (λ (u : Option RRset). Keeps u r) (sym held.is) (record { changed = refl; set = refl })
last_kept o t (s ∷ rs) r held keeps =
    subst (λ (u : Option RRset). Keeps u r) (sym held.is) (keeps_by (held_set t false (s ∷ rs) held.sigs) r (keeps_lost (held_set t false (s ∷ rs) held.sigs) r keeps))

pub missing_kept : (o : Option RRset) (t : RecordType) (rs : List Record) (r : Record) → Held o t rs → list_any (λ s. rdata_eq s.rdata r.rdata) rs ≡ false → Keeps o r
missing_kept o t [] r held none = subst (λ (u : Option RRset). Keeps u r) (sym held.is) (record { changed = refl; set = refl })
missing_kept o t (s ∷ rs) r held none =
    subst (λ (u : Option RRset). Keeps u r) (sym held.is) (keeps_by (held_set t false (s ∷ rs) held.sigs) r (none_lost (held_set t false (s ∷ rs) held.sigs) r none))

left_filled : (t : RecordType) (rs sigs left : List Record) → filled t left ≡ if_some_left (left_of (held_set t false rs sigs) left)
left_filled t rs sigs [] = refl
left_filled t rs sigs (x ∷ xs) = refl

-- One is lost.
pub record Loses (o : Option RRset) (r : Record) (left : Option RRset) : Type 0 where
  pub changed : loses_in o r ≡ true
  pub set : lost_in o r ≡ left

pub one_taken : (o : Option RRset) (t : RecordType) (rs : List Record) (r : Record) (i : ℕ) → Held o t rs → keeps_last (held_set t false rs []) ≡ false → FoundEqual rs r.rdata i
    → Loses o r (filled t (remove rs i))
one_taken o t [] r i held keeps at = absurd (omega (arith, at.within))
one_taken o t (s ∷ rs) r i held keeps at =
    let set = held_set t false (s ∷ rs) held.sigs in
    let loses_it : loses set r ≡ true = one_lost set r keeps at.there in
    subst (λ (u : Option RRset). Loses u r (filled t (remove (s ∷ rs) i))) (sym held.is) (record {
      changed = loses_it;
      set = ap (λ (b : Bool). cond b (if_some_left (removed set r)) (Some set)) loses_it
          ∙ sym (left_filled t (s ∷ rs) held.sigs (without (s ∷ rs) r.rdata)) ∙ ap (filled t) at.taken;
    })

-- ---- the set is taken for the zone
held_of : (key : DomainName) (t : RecordType) (rs : List Record) → 0 < length rs → IsSetOf key (filled t rs) → IsHeld t false rs []
held_of key t [] some is = absurd (omega (arith, some))
held_of key t (r ∷ rs) some is = record { filled = some; is = is.0.is }

-- The set of a draft that has records.
pub record TakenSet (t : RecordType) (draft : RecordsDraft) : Type 0 where
  pub held : IsHeld t false (records_in [] (Some draft)) []
  pub set : filled t (records_in [] (Some draft)) ≡ Some (held_set t false (records_in [] (Some draft)) [])

pub taken_set : (key : DomainName) (t : RecordType) (draft : RecordsDraft) → IsRecordsDraft 0 draft → has_records (Some draft) ≡ true → IsSetOf key (set_by None t (Some draft)) → TakenSet t draft
taken_set key t draft is has of =
    let some : 0 < draft.len = above_none draft.len (eqb-false draft.len 0 (not_false (draft.len == 0) has)) in
    let long : length (records_in [] (Some draft)) ≡ draft.len = length_records [] draft is in
    let full : 0 < length (records_in [] (Some draft)) = omega (arith, some, long) in
    record {
      held = held_of key t (records_in [] (Some draft)) full of;
      set = filled_some t (records_in [] (Some draft)) (long_some (records_in [] (Some draft)) full);
    }

pub none_taken : (t : RecordType) (d : Option RecordsDraft) → has_records d ≡ false → IsOverStored None d → set_by None t d ≡ None
none_taken t None e is = refl
none_taken t (Some draft) e is = ap (filled t) (none_drafted [] draft is (eqb-true draft.len 0 (not_not (draft.len == 0) e)))

-- ---- what adding a record does with a set
pub begun_set : (o : Option RRset) (r : Record) → o ≡ None → Some (upserted None r) ≡ cond (joins o r) (Some (upserted o r)) o
begun_set o r none = subst (λ (u : Option RRset). Some (upserted None r) ≡ cond (joins u r) (Some (upserted u r)) u) (sym none) refl

pub kept_set : (o : Option RRset) (r : Record) → joins o r ≡ false → o ≡ cond (joins o r) (Some (upserted o r)) o
kept_set o r none = ap (λ (b : Bool). cond b (Some (upserted o r)) o) (sym none)

pub joined_set : (o now : Option RRset) (r : Record) → joins o r ≡ true → now ≡ Some (upserted o r) → now ≡ cond (joins o r) (Some (upserted o r)) o
joined_set o now r some is = is ∙ ap (λ (b : Bool). cond b (Some (upserted o r)) o) (sym some)

-- ---- in the zone
-- The set of a draft over none is of the draft's type.
filled_type : (t : RecordType) (rs : List Record) (s : RRset) → filled t rs ≡ Some s → s.record_type ≡ t
filled_type t [] s e = let h : ⊥ = cc in absurd h
filled_type t (r ∷ rs) s e = let same : s ≡ held_set t false (r ∷ rs) [] = cc in ap (λ (u : RRset). u.record_type) same

pub type_taken : (t : RecordType) (d : Option RecordsDraft) (s : RRset) → set_by None t d ≡ Some s → s.record_type ≡ t
type_taken t None s e = let h : ⊥ = cc in absurd h
type_taken t (Some draft) s e = filled_type t (records_in [] (Some draft)) s e

pub filled_taken : (key : DomainName) (s : RRset) (o : Option RRset) → o ≡ Some s → IsSetOf key o → IsStored s × (name_eq key s.name ≡ true)
filled_taken key s None e is = let h : ⊥ = cc in absurd h
filled_taken key s (Some u) e is = let same : u ≡ s = cc in subst (λ (v : RRset). IsStored v × (name_eq key v.name ≡ true)) same is

none_of_filled : (t : RecordType) (rs : List Record) → filled t rs ≡ None → length rs ≡ 0
none_of_filled t [] e = refl
none_of_filled t (r ∷ rs) e = let h : ⊥ = cc in absurd h

pub empty_taken : (t : RecordType) (draft : RecordsDraft) → IsRecordsDraft 0 draft → set_by None t (Some draft) ≡ None → draft.len ≡ 0
empty_taken t draft is none = sym (length_records [] draft is) ∙ none_of_filled t (records_in [] (Some draft)) none

pub filled_long_some : (t : RecordType) (rs : List Record) → (length rs ≡ 0 → ⊥) → filled t rs ≡ Some (held_set t false rs [])
filled_long_some t [] some = absurd (some refl)
filled_long_some t (r ∷ rs) some = refl

-- What is looked up in the zone isn't there.
pub none_is : (stored : Option RRset) (found : Option (Bor RRset)) (some : Bool) → option_copied found ≡ stored → some ≡ is_some found → some ≡ false → stored ≡ None
none_is stored None some e is none = sym e
none_is stored (Some x) some e is none = absurd (true≢false (sym is ∙ none))

pub some_is : (stored : Option RRset) (found : Option (Bor RRset)) (some : Bool) → option_copied found ≡ stored → some ≡ is_some found → some ≡ true → IsSome stored
some_is stored None some e is there = absurd (true≢false (sym there ∙ is))
some_is stored (Some x) some e is there = subst IsSome e refl
