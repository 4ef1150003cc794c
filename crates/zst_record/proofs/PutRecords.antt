-- A set's records with one more.
use Rattle.std.proofs.Common.{◌≡◌, ℕ, ◌+◌, ◌<◌, ◌≤◌, suc, refl, ap, sym, ◌∙◌, arith, length, set, ◌⊎◌, inl, inr}
use Rattle.std.specs.Prelude.{Bool, true, false, not, ◌||◌, List, [], ◌∷◌, ◌++◌, Some, None, position, cond, nat_lt}
use Rattle.std.specs.List.{AllByRecursion, insert, position_or_len}
use Rattle.std.proofs.lemmas.Bool.{ltb-true, ltb-false, eq-eqb, true≢false}
use Rattle.drd_rdata.specs.dnw_codes.declared.record_type.RecordType.{RecordType}
use Rattle.zst_record.specs.declared.records.Record.{Record}
use Rattle.drd_rdata.specs.declared.rdata.RData.{RData}
use Rattle.drd_rdata.specs.dnw_name.DomainName.{DomainName, name_eq}
use Rattle.zst_record.specs.RecordLaws.{name_eq_equiv}
use Rattle.drd_rdata.specs.dnw_codes.RecordType.{record_type_number}
use Rattle.drd_rdata.specs.Order.{rdata_eq}
use Rattle.drd_rdata.specs.Types.{type_of}
use Rattle.drd_rdata.specs.dnw_codes.DNSClass.{same_class}
use Rattle.drd_rdata.specs.dnw_codes.declared.dns_class.DNSClass.{DNSClass}
use Rattle.drd_rdata.specs.dnw_codes.RecordType.{same_record_type}
use Rattle.zst_record.specs.RecordLaws.{class_equiv}
use Rattle.zst_record.specs.RecordSets.{RRset, IsHeld, IsRecordOf, first_class, first_name, first_of_put, held_set, is_signature_of, put_record, with_one}

-- ---- by where the record with equal data stands
abbrev equal : RData → Record → Bool
equal rdata s = rdata_eq s.rdata rdata

found_step : (b : Bool) (x r : Record) (xs : List Record) (n : ℕ) → (n < length xs → put_record xs r ≡ set xs n r)
    → cond (not b) (1 + n) 0 < 1 + length xs → cond b (r ∷ xs) (x ∷ put_record xs r) ≡ set (x ∷ xs) (cond (not b) (1 + n) 0) r
found_step true x r xs n more h = refl
found_step false x r xs n more h = let e : 1 + n ≡ suc n = omega arith in rw (more (omega arith), e) refl

found : (xs : List Record) (r : Record) → position_or_len (equal r.rdata) xs < length xs → put_record xs r ≡ set xs (position_or_len (equal r.rdata) xs) r
found [] r h = absurd (omega arith)
found (x ∷ xs) r h = found_step (equal r.rdata x) x r xs (position_or_len (equal r.rdata) xs) (found xs r) (omega arith)

missed_step : (b : Bool) (x r : Record) (xs : List Record) (n : ℕ) → (length xs ≤ n → put_record xs r ≡ xs ++ r ∷ [])
    → 1 + length xs ≤ cond (not b) (1 + n) 0 → cond b (r ∷ xs) (x ∷ put_record xs r) ≡ x ∷ xs ++ r ∷ []
missed_step true x r xs n more h = absurd (omega arith)
missed_step false x r xs n more h = rw (more (omega arith)) refl

missed : (xs : List Record) (r : Record) → length xs ≤ position_or_len (equal r.rdata) xs → put_record xs r ≡ xs ++ r ∷ []
missed [] r h = refl
missed (x ∷ xs) r h = missed_step (equal r.rdata x) x r xs (position_or_len (equal r.rdata) xs) (missed xs r) (omega arith)

pub put_record_found : (xs : List Record) (r : Record) (i : ℕ) → Some i ≡ position (λ s. rdata_eq s.rdata r.rdata) xs → set xs i r ≡ put_record xs r
put_record_found xs r i e = by (nat_lt n (length xs)) refl e
  where
    n : ℕ
    n = position_or_len (equal r.rdata) xs

    by : (b : Bool) → nat_lt n (length xs) ≡ b → Some i ≡ cond b (Some n) None → set xs i r ≡ put_record xs r
    by true t s = let j : i ≡ n = cc in ap (λ k. set xs k r) j ∙ sym (found xs r (ltb-true n (length xs) t))
    by false t s = cc

pub put_record_missed : (xs : List Record) (r : Record) → None ≡ position (λ s. rdata_eq s.rdata r.rdata) xs → xs ++ r ∷ [] ≡ put_record xs r
put_record_missed xs r e = by (nat_lt n (length xs)) refl e
  where
    n : ℕ
    n = position_or_len (equal r.rdata) xs

    by : (b : Bool) → nat_lt n (length xs) ≡ b → None ≡ cond b (Some n) None → xs ++ r ∷ [] ≡ put_record xs r
    by true t s = cc
    by false t s = sym (missed xs r (ltb-false n (length xs) t))

-- ---- the set is one still
-- a record is of the owner, class and type
abbrev pub IsOf : DomainName → DNSClass → RecordType → Record → Type 0
IsOf name class kind r =
    (name_eq r.name name ≡ true) × (same_class r.dns_class class ≡ true) × (same_record_type (type_of r.rdata) kind ≡ true)

pub of_set : (set : RRset) (rs : List Record) → AllByRecursion (IsRecordOf set) rs → AllByRecursion (IsOf set.name set.dns_class set.record_type) rs
of_set set [] all = tt
of_set set (r ∷ rs) all = ((all.0.at_owner, all.0.of_class, all.0.of_type), of_set set rs all.1)

pub to_set : (set : RRset) (rs : List Record) → AllByRecursion (IsOf set.name set.dns_class set.record_type) rs → AllByRecursion (IsRecordOf set) rs
to_set set [] all = tt
to_set set (r ∷ rs) all = (record { at_owner = all.0.0; of_class = all.0.1; of_type = all.0.2 }, to_set set rs all.1)

-- owner and class may be spelled otherwise
pub moved : (p q : DomainName) (b c : DNSClass) (t : RecordType) (xs : List Record) → name_eq p q ≡ true → same_class b c ≡ true → AllByRecursion (IsOf p b t) xs → AllByRecursion (IsOf q c t) xs
moved p q b c t [] same alike a = tt
moved p q b c t (x ∷ xs) same alike a =
    let owner : name_eq x.name q ≡ true = name_eq_equiv.symm x.name q ∙ sym (name_eq_equiv.congr p q x.name same) ∙ name_eq_equiv.symm p x.name ∙ a.0.0 in
    let class : same_class x.dns_class c ≡ true = class_equiv.symm x.dns_class c ∙ sym (class_equiv.congr b c x.dns_class alike) ∙ class_equiv.symm b x.dns_class ∙ a.0.1 in
    ((owner, class, a.0.2), moved p q b c t xs same alike a.1)

all_step : (p : DomainName) (c : DNSClass) (t : RecordType) (x r : Record) (xs : List Record) (b : Bool) → IsOf p c t r
    → AllByRecursion (IsOf p c t) (x ∷ xs) → AllByRecursion (IsOf p c t) (put_record xs r)
    → AllByRecursion (IsOf p c t) (cond b (r ∷ xs) (x ∷ put_record xs r))
all_step p c t x r xs true h all more = (h, all.1)
all_step p c t x r xs false h all more = (all.0, more)

all_put : (p : DomainName) (c : DNSClass) (t : RecordType) (xs : List Record) (r : Record) → IsOf p c t r
    → AllByRecursion (IsOf p c t) xs → AllByRecursion (IsOf p c t) (put_record xs r)
all_put p c t [] r h a = (h, tt)
all_put p c t (x ∷ xs) r h a = all_step p c t x r xs (rdata_eq x.rdata r.rdata) h a (all_put p c t xs r h a.1)

self_of : (t : RecordType) (p : DomainName) (c : DNSClass) (r : Record) → IsOf p c t r → IsOf r.name r.dns_class t r
self_of t p c r h = (name_eq_equiv.refl r.name, class_equiv.refl r.dns_class, h.2)

-- the first record's spelling
pub spelled_put : (xs : List Record) (r : Record) → (first_name (put_record xs r) ≡ first_of_put r.name (first_name xs) xs r) × (first_class (put_record xs r) ≡ first_of_put r.dns_class (first_class xs) xs r)
spelled_put [] r = (refl, refl)
spelled_put (x ∷ xs) r = by (rdata_eq x.rdata r.rdata)
  where
    by : (b : Bool) → (first_name (cond b (r ∷ xs) (x ∷ put_record xs r)) ≡ cond b r.name x.name) × (first_class (cond b (r ∷ xs) (x ∷ put_record xs r)) ≡ cond b r.dns_class x.dns_class)
    by true = (refl, refl)
    by false = (refl, refl)

owned_step : (t : RecordType) (x r : Record) (xs : List Record) (b : Bool) → IsOf x.name x.dns_class t r → AllByRecursion (IsOf x.name x.dns_class t) (x ∷ xs)
    → AllByRecursion (IsOf (first_name (cond b (r ∷ xs) (x ∷ put_record xs r))) (first_class (cond b (r ∷ xs) (x ∷ put_record xs r))) t) (cond b (r ∷ xs) (x ∷ put_record xs r))
owned_step t x r xs true h a = (
  self_of t x.name x.dns_class r h,
  moved x.name r.name x.dns_class r.dns_class t xs (name_eq_equiv.symm x.name r.name ∙ h.0) (class_equiv.symm x.dns_class r.dns_class ∙ h.1) a.1,
)
owned_step t x r xs false h a = (a.0, all_put x.name x.dns_class t xs r h a.1)

owned_put : (t : RecordType) (xs : List Record) (r : Record) → IsOf (first_name xs) (first_class xs) t r → AllByRecursion (IsOf (first_name xs) (first_class xs) t) xs
    → AllByRecursion (IsOf (first_name (put_record xs r)) (first_class (put_record xs r)) t) (put_record xs r)
owned_put t [] r h a = (self_of t (first_name []) (first_class []) r h, tt)
owned_put t (x ∷ xs) r h a = owned_step t x r xs (rdata_eq x.rdata r.rdata) h a

filled_put : (xs : List Record) (r : Record) → 0 < length (put_record xs r)
filled_put [] r = omega arith
filled_put (x ∷ xs) r = by (rdata_eq x.rdata r.rdata)
  where
    by : (b : Bool) → 0 < length (cond b (r ∷ xs) (x ∷ put_record xs r))
    by true = omega arith
    by false = omega arith

spelled_first : (t : RecordType) (e : Bool) (items sigs : List Record) (first : Record) (later : List Record) → cond e [] items ≡ first ∷ later
    → (first_name items ≡ first.name) × (first_class items ≡ first.dns_class)
spelled_first t true items sigs first later e = let h : ⊥ = cc in absurd h
spelled_first t false items sigs first later e = (ap first_name e, ap first_class e)

-- A list of records is kept as a set where each is of its owner, class and type.
pub held : (t : RecordType) (e : Bool) (items sigs : List Record) → 0 < length items
    → AllByRecursion (IsOf (first_name items) (first_class items) t) (cond e [] items)
    → AllByRecursion (λ r. is_signature_of (held_set t e items sigs) r ≡ true) sigs → IsHeld t e items sigs
held t e items sigs some all signed = record {
  filled = some;
  is = record {
    records = to_set (held_set t e items sigs) (cond e [] items) all;
    signatures = signed;
    spelled = λ first later h. spelled_first t e items sigs first later h;
  };
}

-- What is put in behind all others.
pub insert_last : {X : Type 0} (xs : List X) (x : X) → insert xs (length xs) x ≡ xs ++ x ∷ []
insert_last [] x = refl
insert_last {X} (y ∷ xs) x = ap (λ (ys : List X). y ∷ ys) (insert_last xs x)

pub held_one : (r : Record) (t : RecordType) (items sigs : List Record) → items ≡ r ∷ [] → sigs ≡ [] → same_record_type (type_of r.rdata) t ≡ true → (e : Bool) → IsHeld t e items sigs
held_one r t items sigs one none kind e = rw (one, none) (by e)
  where
    by : (e : Bool) → IsHeld t e (r ∷ []) []
    by true = held t true (r ∷ []) [] (omega arith) tt tt
    by false = held t false (r ∷ []) [] (omega arith) ((name_eq_equiv.refl r.name, class_equiv.refl r.dns_class, kind), tt) tt

pub same_type : (r : Record) → same_record_type (type_of r.rdata) (type_of r.rdata) ≡ true
same_type r = eq-eqb (record_type_number (type_of r.rdata)) (record_type_number (type_of r.rdata)) refl

pub held_put : (t : RecordType) (e : Bool) (items sigs : List Record) (r : Record) → IsHeld t e items sigs → e ≡ false → IsOf (first_name items) (first_class items) t r
    → IsHeld t false (put_record items r) []
held_put t true items sigs r is off h = let g : ⊥ = cc in absurd g
held_put t false items sigs r is off h =
    held t false (put_record items r) [] (filled_put items r)
    (owned_put t items r h (of_set (held_set t false items sigs) items is.is.records)) tt

pub set_put_is : (t : RecordType) (items sigs : List Record) (r : Record) → held_set t false (put_record items r) [] ≡ with_one false (held_set t false items sigs) r
set_put_is t items sigs r = rw ((spelled_put items r).0, (spelled_put items r).1) refl

all_more : {X : Type 0} (P : X → Type 0) (xs : List X) (x : X) → AllByRecursion P xs → P x → AllByRecursion P (xs ++ x ∷ [])
all_more P [] x all h = (h, tt)
all_more P (y ∷ xs) x all h = (all.0, all_more P xs x all.1 h)

pub held_signed : (t : RecordType) (e : Bool) (items sigs : List Record) (r : Record) → IsHeld t e items sigs → is_signature_of (held_set t e items sigs) r ≡ true → IsHeld t e items (sigs ++ r ∷ [])
held_signed t e items sigs r is signed =
    held t e items (sigs ++ r ∷ []) is.filled (of_set (held_set t e items sigs) (cond e [] items) is.is.records)
    (all_more (λ s. is_signature_of (held_set t e items sigs) s ≡ true) sigs r is.is.signatures signed)

-- ---- a record in place of all others, or put among them
pub alone_is : (t : RecordType) (alone e : Bool) (items sigs : List Record) (r : Record) → (alone || e) ≡ true → held_set t false (r ∷ []) [] ≡ with_one alone (held_set t e items sigs) r
alone_is t true e items sigs r h = refl
alone_is t false true items sigs r h = refl
alone_is t false false items sigs r h = absurd (true≢false (sym h))

pub put_is : (t : RecordType) (alone e : Bool) (items sigs : List Record) (r : Record) → (alone || e) ≡ false → held_set t e (put_record items r) [] ≡ with_one alone (held_set t e items sigs) r
put_is t true e items sigs r h = absurd (true≢false h)
put_is t false true items sigs r h = absurd (true≢false h)
put_is t false false items sigs r h = set_put_is t items sigs r

pub held_after : (t : RecordType) (alone e : Bool) (items sigs : List Record) (r : Record) → (alone || e) ≡ false → IsHeld t e items sigs
    → name_eq r.name (first_name items) ≡ true → (alone ≡ true) ⊎ (same_class r.dns_class (first_class items) ≡ true) → same_record_type (type_of r.rdata) t ≡ true → IsHeld t e (put_record items r) []
held_after t true e items sigs r h is owner class kind = absurd (true≢false h)
held_after t false true items sigs r h is owner class kind = absurd (true≢false h)
held_after t false false items sigs r h is owner (inl alone) kind = absurd (true≢false (sym alone))
held_after t false false items sigs r h is owner (inr class) kind = held_put t false items sigs r is refl (owner, class, kind)
