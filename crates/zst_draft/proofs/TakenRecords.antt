-- The records of a set without one.
use Rattle.std.proofs.Common.{◌≡◌, ℕ, ◌+◌, ◌<◌, ◌≤◌, suc, refl, ap, sym, ◌∙◌, arith, length}
use Rattle.std.specs.Prelude.{Bool, true, false, not, ◌||◌, List, [], ◌∷◌, Some, None, position, cond, nat_lt}
use Rattle.std.specs.List.{AllByRecursion, list_any, position_or_len, remove}
use Rattle.std.proofs.lemmas.Bool.{ltb-true, ltb-false}
use Rattle.zst_map.specs.dnw_codes.declared.dns_class.DNSClass.{DNSClass}
use Rattle.zst_map.specs.dnw_codes.declared.record_type.RecordType.{RecordType}
use Rattle.zst_map.specs.dnw_name.DomainName.{DomainName}
use Rattle.zst_map.specs.drd_rdata.declared.rdata.RData.{RData}
use Rattle.zst_map.specs.drd_rdata.Order.{rdata_eq}
use Rattle.zst_map.specs.zst_record.RecordLaws.{class_equiv, name_eq_equiv}
use Rattle.zst_map.specs.zst_record.RecordSets.{first_class, first_name, without}
use Rattle.zst_map.specs.zst_record.declared.records.Record.{Record}
use Rattle.zst_map.proofs.PutRecords.{IsOf, moved}

abbrev equal : RData → Record → Bool
equal value s = rdata_eq s.rdata value

found_step : (b : Bool) (x : Record) (xs : List Record) (value : RData) (n : ℕ) → (n < length xs → (without xs value ≡ remove xs n) × (list_any (equal value) xs ≡ true))
    → cond (not b) (1 + n) 0 < 1 + length xs
    → (cond b xs (x ∷ without xs value) ≡ remove (x ∷ xs) (cond (not b) (1 + n) 0)) × (cond b true (list_any (equal value) xs) ≡ true)
found_step true x xs value n more h = (refl, refl)
found_step false x xs value n more h =
    let e : 1 + n ≡ suc n = omega arith in
    let f = more (omega arith) in
    (rw (f.0, e) refl, f.1)

or_cond : (b c : Bool) → cond b true c ≡ (b || c)
or_cond true c = refl
or_cond false c = refl

found : (xs : List Record) (value : RData) → position_or_len (equal value) xs < length xs
    → (without xs value ≡ remove xs (position_or_len (equal value) xs)) × (list_any (equal value) xs ≡ true)
found [] value h = absurd (omega arith)
found (x ∷ xs) value h =
    let f = found_step (equal value x) x xs value (position_or_len (equal value) xs) (found xs value) (omega arith) in
    (f.0, sym (or_cond (equal value x) (list_any (equal value) xs)) ∙ f.1)

missed_step : (b c : Bool) (n m : ℕ) → (m ≤ n → c ≡ false) → 1 + m ≤ cond (not b) (1 + n) 0 → (b || c) ≡ false
missed_step true c n m more h = absurd (omega arith)
missed_step false c n m more h = more (omega arith)

missed : (xs : List Record) (value : RData) → length xs ≤ position_or_len (equal value) xs → list_any (equal value) xs ≡ false
missed [] value h = refl
missed (x ∷ xs) value h = missed_step (equal value x) (list_any (equal value) xs) (position_or_len (equal value) xs) (length xs) (missed xs value) (omega arith)

pub none_equal : (xs : List Record) (value : RData) → None ≡ position (equal value) xs → list_any (equal value) xs ≡ false
none_equal xs value e = by (nat_lt (position_or_len (equal value) xs) (length xs)) refl e
  where
    by : (b : Bool) → nat_lt (position_or_len (equal value) xs) (length xs) ≡ b → None ≡ cond b (Some (position_or_len (equal value) xs)) None → list_any (equal value) xs ≡ false
    by true t s = let h : ⊥ = cc in absurd h
    by false t s = missed xs value (ltb-false (position_or_len (equal value) xs) (length xs) t)

-- What was found at its index.
pub record FoundEqual (xs : List Record) (value : RData) (i : ℕ) : Type 0 where
  pub taken : without xs value ≡ remove xs i
  pub there : list_any (equal value) xs ≡ true
  pub within : i < length xs

pub found_equal : (xs : List Record) (value : RData) (i : ℕ) → Some i ≡ position (equal value) xs → FoundEqual xs value i
found_equal xs value i e = by (nat_lt (position_or_len (equal value) xs) (length xs)) refl e
  where
    n : ℕ
    n = position_or_len (equal value) xs

    by : (b : Bool) → nat_lt n (length xs) ≡ b → Some i ≡ cond b (Some n) None → FoundEqual xs value i
    by true t s =
        let j : i ≡ n = cc in
        let h = ltb-true n (length xs) t in
        let f = found xs value h in
        record { taken = f.0 ∙ ap (remove xs) (sym j); there = f.1; within = omega (arith, j, h) }
    by false t s = let h : ⊥ = cc in absurd h

without_step : (P : Record → Type 0) (x : Record) (xs rest : List Record) (b : Bool) → P x → AllByRecursion P xs → AllByRecursion P rest → AllByRecursion P (cond b xs (x ∷ rest))
without_step P x xs rest true first all more = all
without_step P x xs rest false first all more = (first, more)

pub all_without : (P : Record → Type 0) (xs : List Record) (value : RData) → AllByRecursion P xs → AllByRecursion P (without xs value)
all_without P [] value all = tt
all_without P (x ∷ xs) value all = without_step P x xs (without xs value) (rdata_eq x.rdata value) all.0 all.1 (all_without P xs value all.1)

pub respelled : (p : DomainName) (c : DNSClass) (t : RecordType) (xs : List Record) → AllByRecursion (IsOf p c t) xs → AllByRecursion (IsOf (first_name xs) (first_class xs) t) xs
respelled p c t [] all = tt
respelled p c t (x ∷ xs) all =
    moved p x.name c x.dns_class t (x ∷ xs) (name_eq_equiv.symm p x.name ∙ all.0.0) (class_equiv.symm c x.dns_class ∙ all.0.1) all
