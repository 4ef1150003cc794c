-- A set's records without one.
use Rattle.std.proofs.Common.{◌≡◌, ℕ, ◌+◌, ◌<◌, ◌≤◌, suc, zero, refl, ap, sym, ◌∙◌, arith, length, ◌⊎◌, inl, inr}
use Rattle.std.specs.Prelude.{Bool, true, false, not, ◌||◌, List, [], ◌∷◌, Some, None, position, cond, nat_lt}
use Rattle.std.specs.List.{AllByRecursion, list_any, position_or_len, remove}
use Rattle.std.proofs.lemmas.Bool.{cases_lt, ltb-true, ltb-false}
use Rattle.drd_rdata.specs.dnw_codes.declared.dns_class.DNSClass.{DNSClass}
use Rattle.drd_rdata.specs.dnw_codes.declared.record_type.RecordType.{RecordType}
use Rattle.drd_rdata.specs.dnw_name.DomainName.{DomainName}
use Rattle.drd_rdata.specs.declared.rdata.RData.{RData}
use Rattle.drd_rdata.specs.Order.{rdata_eq}
use Rattle.zst_record.specs.RecordLaws.{class_equiv, name_eq_equiv}
use Rattle.zst_record.specs.RecordSets.{RRset, IsHeld, first_class, first_name, held_set, keeps_last, left_of, loses, removed, without}
use Rattle.zst_record.specs.declared.records.Record.{Record}
use Rattle.zst_record.proofs.PutRecords.{IsOf, held, moved, of_set}

abbrev equal : RData → Record → Bool
equal value s = rdata_eq s.rdata value

place : RData → List Record → ℕ
place value xs = position_or_len (equal value) xs

found_step : (b : Bool) (x : Record) (xs : List Record) (value : RData) (n : ℕ) → (n < length xs → (without xs value ≡ remove xs n) × (list_any (equal value) xs ≡ true))
    → cond (not b) (1 + n) 0 < 1 + length xs
    → (cond b xs (x ∷ without xs value) ≡ remove (x ∷ xs) (cond (not b) (1 + n) 0)) × (cond b true (list_any (equal value) xs) ≡ true)
found_step true x xs value n more h = (refl, refl)
found_step false x xs value n more h =
    let e : 1 + n ≡ suc n = omega arith in
    let f = more (omega arith) in
    (rw (f.0, e) refl, f.1)

or_cond : (b c : Bool) → cond b true c ≡ (b || c)
or_cond true c = refl
or_cond false c = refl

found : (xs : List Record) (value : RData) → position_or_len (equal value) xs < length xs
    → (without xs value ≡ remove xs (position_or_len (equal value) xs)) × (list_any (equal value) xs ≡ true)
found [] value h = absurd (omega arith)
found (x ∷ xs) value h =
    let f = found_step (equal value x) x xs value (position_or_len (equal value) xs) (found xs value) (omega arith) in
    (f.0, sym (or_cond (equal value x) (list_any (equal value) xs)) ∙ f.1)

missed_step : (b c : Bool) (n m : ℕ) → (m ≤ n → c ≡ false) → 1 + m ≤ cond (not b) (1 + n) 0 → (b || c) ≡ false
missed_step true c n m more h = absurd (omega arith)
missed_step false c n m more h = more (omega arith)

missed : (xs : List Record) (value : RData) → length xs ≤ position_or_len (equal value) xs → list_any (equal value) xs ≡ false
missed [] value h = refl
missed (x ∷ xs) value h = missed_step (equal value x) (list_any (equal value) xs) (position_or_len (equal value) xs) (length xs) (missed xs value) (omega arith)

pub none_equal : (xs : List Record) (value : RData) → None ≡ position (equal value) xs → list_any (equal value) xs ≡ false
none_equal xs value e = by (nat_lt (position_or_len (equal value) xs) (length xs)) refl e
  where
    by : (b : Bool) → nat_lt (position_or_len (equal value) xs) (length xs) ≡ b → None ≡ cond b (Some (position_or_len (equal value) xs)) None → list_any (equal value) xs ≡ false
    by true t s = let h : ⊥ = cc in absurd h
    by false t s = missed xs value (ltb-false (position_or_len (equal value) xs) (length xs) t)

-- What was found stands at its place.
pub record FoundEqual (xs : List Record) (value : RData) (i : ℕ) : Type 0 where
  pub taken : without xs value ≡ remove xs i
  pub there : list_any (equal value) xs ≡ true
  pub within : i < length xs

pub found_equal : (xs : List Record) (value : RData) (i : ℕ) → Some i ≡ position (equal value) xs → FoundEqual xs value i
found_equal xs value i e = by (nat_lt (position_or_len (equal value) xs) (length xs)) refl e
  where
    n : ℕ
    n = position_or_len (equal value) xs

    by : (b : Bool) → nat_lt n (length xs) ≡ b → Some i ≡ cond b (Some n) None → FoundEqual xs value i
    by true t s =
        let j : i ≡ n = cc in
        let h = ltb-true n (length xs) t in
        let f = found xs value h in
        record { taken = f.0 ∙ ap (remove xs) (sym j); there = f.1; within = omega (arith, j, h) }
    by false t s = let h : ⊥ = cc in absurd h

-- ---- the set
pub nothing_lost : (set : RRset) (r : Record) → keeps_last set ≡ false → list_any (equal r.rdata) set.records ≡ false → loses set r ≡ false
nothing_lost set r keeps none = rw (keeps, none) refl

pub kept_last : (set : RRset) (r : Record) → keeps_last set ≡ true → loses set r ≡ false
kept_last set r keeps = rw keeps refl

pub one_lost : (set : RRset) (r : Record) → keeps_last set ≡ false → list_any (equal r.rdata) set.records ≡ true → loses set r ≡ true
one_lost set r keeps there = rw (keeps, there) refl

-- The records of a set that are found are kept as such.
pub not_empty : (e : Bool) (items : List Record) (value : RData) (i : ℕ) → FoundEqual (cond e [] items) value i → e ≡ false
not_empty true items value i f = absurd (omega (arith, f.within))
not_empty false items value i f = refl

cases_one : (n : ℕ) → (n ≡ 1 → ⊥) → (n ≡ 0) ⊎ (1 < n)
cases_one n many = elim (cases_lt 1 n) [ inl more ↦ inr more | inr few ↦ elim (cases_lt 0 n) [ inl some ↦ absurd (many (omega (arith, few, some))) | inr none ↦ inl (omega (arith, none)) ] ]

left_one : (items : List Record) (i : ℕ) → length items ≡ 1 → i < length items → remove items i ≡ []
left_one [] i one within = absurd (omega (arith, within))
left_one (x ∷ []) i one within = let zero_is : i ≡ 0 = omega (arith, within) in ap (remove (x ∷ [])) zero_is
left_one (x ∷ y ∷ items) i one within = absurd (omega (arith, one))

pub last_left : (t : RecordType) (e : Bool) (items sigs : List Record) (r : Record) (i : ℕ) → FoundEqual (cond e [] items) r.rdata i → length (cond e [] items) ≡ 1
    → held_set t true items [] ≡ removed (held_set t e items sigs) r
last_left t true items sigs r i f one = absurd (omega (arith, f.within))
last_left t false items sigs r i f one =
    sym (ap (left_of (held_set t false items sigs)) (f.taken ∙ left_one items i one f.within))

left_some : (t : RecordType) (e : Bool) (old sigs new : List Record) → 0 < length new → held_set t e new [] ≡ held_set t false new [] → held_set t false new [] ≡ left_of (held_set t false old sigs) new
left_some t e old sigs [] some h = absurd (omega (arith, some))
left_some t e old sigs (x ∷ new) some h = refl

remove-long : (xs : List Record) (i : ℕ) → i < length xs → length (remove xs i) + 1 ≡ length xs
remove-long [] i h = absurd (omega (arith, h))
remove-long (x ∷ xs) zero h = omega arith
remove-long (x ∷ xs) (suc i) h = let m = remove-long xs i (omega (arith, h)) in omega (arith, m)

pub others_left : (t : RecordType) (e : Bool) (items sigs new : List Record) (r : Record) (i : ℕ) → FoundEqual (cond e [] items) r.rdata i → (length (cond e [] items) ≡ 1 → ⊥) → new ≡ remove items i
    → held_set t e new [] ≡ removed (held_set t e items sigs) r
others_left t true items sigs new r i f many is = absurd (omega (arith, f.within))
others_left t false items sigs new r i f many is =
    let some : 0 < length new = elim (cases_one (length items) many) [ inl none ↦ absurd (omega (arith, none, f.within)) | inr more ↦ omega (arith, more, ap length is, remove-long items i f.within) ] in
    left_some t false items sigs new some refl ∙ sym (ap (left_of (held_set t false items sigs)) (f.taken ∙ sym is))

without_step : (P : Record → Type 0) (x : Record) (xs rest : List Record) (b : Bool) → P x → AllByRecursion P xs → AllByRecursion P rest → AllByRecursion P (cond b xs (x ∷ rest))
without_step P x xs rest true first all more = all
without_step P x xs rest false first all more = (first, more)

all_without : (P : Record → Type 0) (xs : List Record) (value : RData) → AllByRecursion P xs → AllByRecursion P (without xs value)
all_without P [] value all = tt
all_without P (x ∷ xs) value all = without_step P x xs (without xs value) (rdata_eq x.rdata value) all.0 all.1 (all_without P xs value all.1)

respelled : (p : DomainName) (c : DNSClass) (t : RecordType) (xs : List Record) → AllByRecursion (IsOf p c t) xs → AllByRecursion (IsOf (first_name xs) (first_class xs) t) xs
respelled p c t [] all = tt
respelled p c t (x ∷ xs) all =
    moved p x.name c x.dns_class t (x ∷ xs) (name_eq_equiv.symm p x.name ∙ all.0.0) (class_equiv.symm c x.dns_class ∙ all.0.1) all

pub held_others : (t : RecordType) (e : Bool) (items sigs new : List Record) (r : Record) (i : ℕ) → IsHeld t e items sigs → FoundEqual (cond e [] items) r.rdata i
    → (length (cond e [] items) ≡ 1 → ⊥) → new ≡ remove items i → IsHeld t e new []
held_others t true items sigs new r i is f many e = absurd (omega (arith, f.within))
held_others t false items sigs new r i is f many e =
    let some : 0 < length new = elim (cases_one (length items) many) [ inl none ↦ absurd (omega (arith, none, f.within)) | inr more ↦ omega (arith, more, ap length e, remove-long items i f.within) ] in
    let rest : new ≡ without items r.rdata = e ∙ sym f.taken in
    held t false new [] some
    (respelled (first_name items) (first_class items) t new
    (rw rest (all_without (IsOf (first_name items) (first_class items) t) items r.rdata (of_set (held_set t false items sigs) items is.is.records)))) tt

pub held_last : (t : RecordType) (e : Bool) (items sigs : List Record) → IsHeld t e items sigs → IsHeld t true items []
held_last t e items sigs is = held t true items [] is.filled tt tt
