-- The sets of one owner with one more, or with one in place of another: where they differ, and what each type's set is then.
use Rattle.std.proofs.Common.{◌≡◌, ℕ, ◌+◌, ◌<◌, ◌≤◌, suc, zero, refl, ap, sym, ◌∙◌, arith, length, get_or, set, take, drop, subst}
use Rattle.std.specs.Prelude.{Bool, true, false, not, ◌==◌, List, [], ◌∷◌, ◌++◌, Option, Some, None, cond, find, nat_lt, Result, Ok, Err, OnOk, OnErr, slice_get}
use Rattle.std.specs.declared.alloc.AllocError.{AllocError}
use Rattle.std.specs.Str.{bytes_eq}
use Rattle.std.specs.List.{AllByRecursion, insert, remove}
use Rattle.std.proofs.lemmas.Bool.{true≢false, eqb-true, eqb-false, ltb-true, ltb-false, eq-eqb, ne_eqb}
use Rattle.zst_handler.specs.dnw_codes.declared.record_type.RecordType.{RecordType}
use Rattle.zst_handler.specs.zst_record.declared.records.Record.{Record}
use Rattle.zst_handler.specs.dnw_name.DomainName.{DomainName, name_eq}
use Rattle.zst_handler.specs.dnw_codes.RecordType.{record_type_number, same_record_type}
use Rattle.zst_key.specs.NameKeys.{name_key}
use Rattle.zst_handler.specs.zst_record.RecordLaws.{name_eq_equiv}
use Rattle.zst_handler.specs.drd_rdata.Order.{rdata_eq}
use Rattle.zst_handler.specs.dnw_codes.DNSClass.{same_class}
use Rattle.zst_handler.specs.zst_record.RecordSets.{RRset, first_of_put, is_single, takes, with_one}
use Rattle.zst_handler.specs.Updates.{set_of_type, with_set, without_type}
use Rattle.zst_map.specs.Changes.{alters, is_only, made, owner_of, type_in, with_change}
use Rattle.zst_map.specs.ZoneMaps.{place_from, IsOwnedAt, IsNode, TypesRise}
use Rattle.zst_map.specs.declared.change.Change.{Change}
use Rattle.zst_map.specs.declared.change.Change.TheVariants as changes
use Rattle.zst_map.proofs.Keys.{same_key}
use Rattle.zst_map.proofs.ZoneNodes.{is_of_type, owner_test}

abbrev pub code_of : RRset → ℕ
code_of s = record_type_number s.record_type

-- ---- with a set of a type
with_below : (s new : RRset) (sets : List RRset) (m : ℕ) → code_of new ≡ m → nat_lt (code_of s) m ≡ true → with_set (s ∷ sets) new ≡ s ∷ with_set sets new
with_below s new sets m is below =
    ap (λ (b : Bool). cond b (s ∷ with_set sets new) (cond (same_record_type s.record_type new.record_type) (new ∷ sets) (new ∷ s ∷ sets))) (ap (nat_lt (code_of s)) is ∙ below)

with_same : (s new : RRset) (sets : List RRset) (m : ℕ) → code_of new ≡ m → nat_lt (code_of s) m ≡ false → (code_of s == m) ≡ true → with_set (s ∷ sets) new ≡ new ∷ sets
with_same s new sets m is below same =
    ap (λ (b : Bool). cond b (s ∷ with_set sets new) (cond (same_record_type s.record_type new.record_type) (new ∷ sets) (new ∷ s ∷ sets))) (ap (nat_lt (code_of s)) is ∙ below)
    ∙ ap (λ (b : Bool). cond b (new ∷ sets) (new ∷ s ∷ sets)) (ap (λ (n : ℕ). code_of s == n) is ∙ same)

with_above : (s new : RRset) (sets : List RRset) (m : ℕ) → code_of new ≡ m → nat_lt (code_of s) m ≡ false → (code_of s == m) ≡ false → with_set (s ∷ sets) new ≡ new ∷ s ∷ sets
with_above s new sets m is below same =
    ap (λ (b : Bool). cond b (s ∷ with_set sets new) (cond (same_record_type s.record_type new.record_type) (new ∷ sets) (new ∷ s ∷ sets))) (ap (nat_lt (code_of s)) is ∙ below)
    ∙ ap (λ (b : Bool). cond b (new ∷ sets) (new ∷ s ∷ sets)) (ap (λ (n : ℕ). code_of s == n) is ∙ same)

found_next : (t : RecordType) (s : RRset) (sets : List RRset) → (code_of s == record_type_number t) ≡ false → find (is_of_type t) (s ∷ sets) ≡ find (is_of_type t) sets
found_next t s sets other = ap (λ (b : Bool). cond b (Some s) (find (is_of_type t) sets)) other

found_now : (t : RecordType) (s : RRset) (sets : List RRset) → (code_of s == record_type_number t) ≡ true → find (is_of_type t) (s ∷ sets) ≡ Some s
found_now t s sets same = ap (λ (b : Bool). cond b (Some s) (find (is_of_type t) sets)) same

other_below : (n m : ℕ) → nat_lt n m ≡ true → (n == m) ≡ false
other_below n m below = ne_eqb n m (λ (e : n ≡ m). let h : n < m = ltb-true n m below in omega arith)

-- ---- by place
-- the set of a type stands at k, where the sets start at i
pub record FoundAt (i k : ℕ) (sets : List RRset) (t : RecordType) (d : RRset) : Type 0 where
  pub j : ℕ
  pub is : k ≡ i + j
  pub below : j < length sets
  pub of_type : code_of (get_or sets j d) ≡ record_type_number t
  pub found : find (is_of_type t) sets ≡ Some (get_or sets j d)
  pub with : (new : RRset) → code_of new ≡ record_type_number t → with_set sets new ≡ set sets j new
  pub without : without_type sets t ≡ remove sets j

found_step : (b c : Bool) (s : RRset) (sets : List RRset) (t : RecordType) (d : RRset) (i k : ℕ)
    → nat_lt (code_of s) (record_type_number t) ≡ b → (code_of s == record_type_number t) ≡ c
    → (place_from (i + 1) sets (record_type_number t) ≡ Ok k → FoundAt (i + 1) k sets t d)
    → cond b (place_from (i + 1) sets (record_type_number t)) (cond c (Ok i) (Err i)) ≡ Ok k
    → FoundAt i k (s ∷ sets) t d
found_step true c s sets t d i k below same more e =
    let f = more e in
    record {
      j = suc f.j;
      is = let h : k ≡ i + 1 + f.j = f.is in omega arith;
      below = let h : f.j < length sets = f.below in omega arith;
      of_type = f.of_type;
      found = found_next t s sets (other_below (code_of s) (record_type_number t) below) ∙ f.found;
      with = λ new is. with_below s new sets (record_type_number t) is below ∙ ap (λ (ss : List RRset). s ∷ ss) (f.with new is);
      without = ap (λ (b : Bool). cond b sets (s ∷ without_type sets t)) (other_below (code_of s) (record_type_number t) below) ∙ ap (λ (ss : List RRset). s ∷ ss) f.without;
    }
found_step false true s sets t d i k below same more e =
    let h : i ≡ k = cc in
    record {
      j = 0;
      is = omega arith;
      below = omega arith;
      of_type = eqb-true (code_of s) (record_type_number t) same;
      found = found_now t s sets same;
      with = λ new is. with_same s new sets (record_type_number t) is below same;
      without = ap (λ (b : Bool). cond b sets (s ∷ without_type sets t)) same;
    }
found_step false false s sets t d i k below same more e = let h : ⊥ = cc in absurd h

pub found_at : (sets : List RRset) (t : RecordType) (d : RRset) (i k : ℕ) → place_from i sets (record_type_number t) ≡ Ok k → FoundAt i k sets t d
found_at [] t d i k e = let h : ⊥ = cc in absurd h
found_at (s ∷ sets) t d i k e =
    found_step (nat_lt (code_of s) (record_type_number t)) (code_of s == record_type_number t) s sets t d i k refl refl (found_at sets t d (i + 1) k) e

-- no set of a type stands among those of greater types
none_above : (n : ℕ) (t : RecordType) (sets : List RRset) → record_type_number t ≤ n → AllByRecursion (λ later. n < record_type_number later.record_type) sets
    → find (is_of_type t) sets ≡ None
none_above n t [] h all = refl
none_above n t (s ∷ sets) h all =
    let g : n < code_of s = all.0 in
    found_next t s sets (ne_eqb (code_of s) (record_type_number t) (λ (e : code_of s ≡ record_type_number t). omega arith)) ∙ none_above n t sets h all.1

-- it would go to k
pub record MissedAt (i k : ℕ) (sets : List RRset) (t : RecordType) : Type 0 where
  pub j : ℕ
  pub is : k ≡ i + j
  pub within : j ≤ length sets
  pub found : find (is_of_type t) sets ≡ None
  pub with : (new : RRset) → code_of new ≡ record_type_number t → with_set sets new ≡ take j sets ++ new ∷ drop j sets

missed_step : (b c : Bool) (s : RRset) (sets : List RRset) (t : RecordType) (i k : ℕ)
    → nat_lt (code_of s) (record_type_number t) ≡ b → (code_of s == record_type_number t) ≡ c
    → AllByRecursion (λ later. code_of s < record_type_number later.record_type) sets
    → (place_from (i + 1) sets (record_type_number t) ≡ Err k → MissedAt (i + 1) k sets t)
    → cond b (place_from (i + 1) sets (record_type_number t)) (cond c (Ok i) (Err i)) ≡ Err k
    → MissedAt i k (s ∷ sets) t
missed_step true c s sets t i k below same first more e =
    let f = more e in
    record {
      j = suc f.j;
      is = let h : k ≡ i + 1 + f.j = f.is in omega arith;
      within = let h : f.j ≤ length sets = f.within in omega arith;
      found = found_next t s sets (other_below (code_of s) (record_type_number t) below) ∙ f.found;
      with = λ new is. with_below s new sets (record_type_number t) is below ∙ ap (λ (ss : List RRset). s ∷ ss) (f.with new is);
    }
missed_step false true s sets t i k below same first more e = let h : ⊥ = cc in absurd h
missed_step false false s sets t i k below same first more e =
    let h : i ≡ k = cc in
    record {
      j = 0;
      is = omega arith;
      within = omega arith;
      found = found_next t s sets same ∙ none_above (code_of s) t sets (ltb-false (code_of s) (record_type_number t) below) first;
      with = λ new is. with_above s new sets (record_type_number t) is below same;
    }

pub missed_at : (sets : List RRset) (t : RecordType) (i k : ℕ) → TypesRise sets → place_from i sets (record_type_number t) ≡ Err k → MissedAt i k sets t
missed_at [] t i k rise e =
    let h : i ≡ k = cc in record { j = 0; is = omega arith; within = omega arith; found = refl; with = λ new is. refl }
missed_at (s ∷ sets) t i k rise e =
    missed_step (nat_lt (code_of s) (record_type_number t)) (code_of s == record_type_number t) s sets t i k refl refl rise.0 (missed_at sets t (i + 1) k rise.1) e

-- ---- the node is one still
above_step : (b c : Bool) (n : ℕ) (s new : RRset) (sets : List RRset) → n < code_of new → n < code_of s
    → AllByRecursion (λ later. n < record_type_number later.record_type) sets → AllByRecursion (λ later. n < record_type_number later.record_type) (with_set sets new)
    → AllByRecursion (λ later. n < record_type_number later.record_type) (cond b (s ∷ with_set sets new) (cond c (new ∷ sets) (new ∷ s ∷ sets)))
above_step true c n s new sets h first old more = (first, more)
above_step false true n s new sets h first old more = (h, old)
above_step false false n s new sets h first old more = (h, (first, old))

above : (n : ℕ) (new : RRset) (sets : List RRset) → n < code_of new → AllByRecursion (λ later. n < record_type_number later.record_type) sets
    → AllByRecursion (λ later. n < record_type_number later.record_type) (with_set sets new)
above n new [] h all = (h, tt)
above n new (s ∷ sets) h all =
    above_step (nat_lt (code_of s) (code_of new)) (same_record_type s.record_type new.record_type) n s new sets h all.0 all.1 (above n new sets h all.1)

raised : (m n : ℕ) (sets : List RRset) → m ≤ n → AllByRecursion (λ later. n < record_type_number later.record_type) sets
    → AllByRecursion (λ later. m < record_type_number later.record_type) sets
raised m n [] h all = tt
raised m n (s ∷ sets) h all = (let g : n < record_type_number s.record_type = all.0 in omega arith, raised m n sets h all.1)

rise_step : (b c : Bool) (s new : RRset) (sets : List RRset) → nat_lt (code_of s) (code_of new) ≡ b → same_record_type s.record_type new.record_type ≡ c
    → AllByRecursion (λ later. code_of s < record_type_number later.record_type) sets → TypesRise sets → TypesRise (with_set sets new)
    → TypesRise (cond b (s ∷ with_set sets new) (cond c (new ∷ sets) (new ∷ s ∷ sets)))
rise_step true c s new sets below same first old more = (above (code_of s) new sets (ltb-true (code_of s) (code_of new) below) first, more)
rise_step false true s new sets below same first old more =
    let h : code_of s ≡ code_of new = eqb-true (code_of s) (code_of new) same in
    (raised (code_of new) (code_of s) sets (omega arith) first, old)
rise_step false false s new sets below same first old more =
    let h : code_of new ≤ code_of s = ltb-false (code_of s) (code_of new) below in
    let ne : code_of s ≡ code_of new → ⊥ = eqb-false (code_of s) (code_of new) same in
    let g : code_of new < code_of s = omega arith in
    ((g, raised (code_of new) (code_of s) sets h first), (first, old))

rise : (new : RRset) (sets : List RRset) → TypesRise sets → TypesRise (with_set sets new)
rise new [] old = (tt, tt)
rise new (s ∷ sets) old =
    rise_step (nat_lt (code_of s) (code_of new)) (same_record_type s.record_type new.record_type) s new sets refl refl old.0 old.1 (rise new sets old.1)

owned_step : (b c : Bool) (key : List ℕ) (s new : RRset) (sets : List RRset) → IsOwnedAt key new
    → IsOwnedAt key s → AllByRecursion (IsOwnedAt key) sets → AllByRecursion (IsOwnedAt key) (with_set sets new)
    → AllByRecursion (IsOwnedAt key) (cond b (s ∷ with_set sets new) (cond c (new ∷ sets) (new ∷ s ∷ sets)))
owned_step true c key s new sets at first old more = (first, more)
owned_step false true key s new sets at first old more = (at, old)
owned_step false false key s new sets at first old more = (at, (first, old))

owned : (key : List ℕ) (new : RRset) (sets : List RRset) → IsOwnedAt key new → AllByRecursion (IsOwnedAt key) sets
    → AllByRecursion (IsOwnedAt key) (with_set sets new)
owned key new [] at all = (at, tt)
owned key new (s ∷ sets) at all =
    owned_step (nat_lt (code_of s) (code_of new)) (same_record_type s.record_type new.record_type) key s new sets at all.0 all.1 (owned key new sets at all.1)

filled : (new : RRset) (sets : List RRset) → 0 < length (with_set sets new)
filled new [] = omega arith
filled new (s ∷ sets) = by (nat_lt (code_of s) (code_of new)) (same_record_type s.record_type new.record_type)
  where
    by : (b c : Bool) → 0 < length (cond b (s ∷ with_set sets new) (cond c (new ∷ sets) (new ∷ s ∷ sets)))
    by true c = omega arith
    by false true = omega arith
    by false false = omega arith

pub IsNode-with : (key : List ℕ) (new : RRset) (sets : List RRset) → IsOwnedAt key new → AllByRecursion (IsOwnedAt key) sets → TypesRise sets
    → IsNode key (with_set sets new)
IsNode-with key new sets at all risen = record { filled = filled new sets; owned = owned key new sets at all; rise = rise new sets risen }

-- ---- each type's set
find_parts : (b e : Bool) (t : RecordType) (s new : RRset) (sets after : List RRset)
    → find (is_of_type t) (cond b (s ∷ after) (cond e (new ∷ sets) (new ∷ s ∷ sets)))
    ≡ cond b (cond (is_of_type t s) (Some s) (find (is_of_type t) after))
    (cond e (cond (is_of_type t new) (Some new) (find (is_of_type t) sets))
    (cond (is_of_type t new) (Some new) (cond (is_of_type t s) (Some s) (find (is_of_type t) sets))))
find_parts true e t s new sets after = refl
find_parts false true t s new sets after = refl
find_parts false false t s new sets after = refl

choose : (b e st nt : Bool) (s new : RRset) (old then : Option RRset)
    → (b ≡ true → st ≡ true → nt ≡ false) → (e ≡ true → nt ≡ st) → then ≡ cond nt (Some new) old
    → cond b (cond st (Some s) then) (cond e (cond nt (Some new) old) (cond nt (Some new) (cond st (Some s) old)))
    ≡ cond nt (Some new) (cond st (Some s) old)
choose true e true nt s new old then h1 h2 ih = rw (h1 refl refl) refl
choose true e false nt s new old then h1 h2 ih = ih
choose false true st true s new old then h1 h2 ih = refl
choose false true st false s new old then h1 h2 ih = rw (← h2 refl) refl
choose false false st nt s new old then h1 h2 ih = refl

pub find_with : (t : RecordType) (new : RRset) (sets : List RRset)
    → find (is_of_type t) (with_set sets new) ≡ cond (same_record_type new.record_type t) (Some new) (find (is_of_type t) sets)
find_with t new [] = refl
find_with t new (s ∷ sets) =
    let n : ℕ = code_of s in
    find_parts (nat_lt n (code_of new)) (n == code_of new) t s new sets (with_set sets new)
    ∙ choose (nat_lt n (code_of new)) (n == code_of new) (is_of_type t s) (same_record_type new.record_type t) s new (find (is_of_type t) sets) (find (is_of_type t) (with_set sets new))
    (λ before at. ne_eqb (code_of new) (record_type_number t)
    (λ (h : code_of new ≡ record_type_number t). let g = ltb-true n (code_of new) before in let f = eqb-true n (record_type_number t) at in omega arith))
    (λ same. ap (λ (m : ℕ). m == record_type_number t) (sym (eqb-true n (code_of new) same)))
    (find_with t new sets)

-- ---- as the code finds them
pub record FoundHere (k : ℕ) (sets : List RRset) (t : RecordType) (d : RRset) : Type 0 where
  pub below : k < length sets
  pub kind : same_record_type t (get_or sets k d).record_type ≡ true
  pub found : find (is_of_type t) sets ≡ Some (get_or sets k d)
  pub with : (new : RRset) → code_of new ≡ record_type_number t → with_set sets new ≡ set sets k new
  pub without : without_type sets t ≡ remove sets k

pub found_here : (sets : List RRset) (t : RecordType) (d : RRset) (k : ℕ) → Ok k ≡ place_from 0 sets (record_type_number t) → FoundHere k sets t d
found_here sets t d k e =
    let f : FoundAt 0 k sets t d = found_at sets t d 0 k (sym e) in
    let same : f.j ≡ k = let h : k ≡ 0 + f.j = f.is in omega arith in
    let P : ℕ → Type 0 = λ n. (n < length sets) × (code_of (get_or sets n d) ≡ record_type_number t) × (find (is_of_type t) sets ≡ Some (get_or sets n d))
    × ((new : RRset) → code_of new ≡ record_type_number t → with_set sets new ≡ set sets n new) × (without_type sets t ≡ remove sets n) in
    let h : P k = subst P same (f.below, f.of_type, f.found, f.with, f.without) in
    record { below = h.0; kind = eq-eqb (record_type_number t) (code_of (get_or sets k d)) (sym h.1); found = h.2; with = h.3; without = h.4 }

pub record MissedHere (k : ℕ) (sets : List RRset) (t : RecordType) : Type 0 where
  pub within : k ≤ length sets
  pub found : find (is_of_type t) sets ≡ None
  pub with : (new : RRset) → code_of new ≡ record_type_number t → with_set sets new ≡ insert sets k new

pub missed_here : (sets : List RRset) (t : RecordType) (k : ℕ) → TypesRise sets → Err k ≡ place_from 0 sets (record_type_number t) → MissedHere k sets t
missed_here sets t k risen e =
    let f : MissedAt 0 k sets t = missed_at sets t 0 k risen (sym e) in
    let same : f.j ≡ k = let h : k ≡ 0 + f.j = f.is in omega arith in
    let P : ℕ → Type 0 = λ n. (n ≤ length sets) × ((new : RRset) → code_of new ≡ record_type_number t → with_set sets new ≡ take n sets ++ new ∷ drop n sets) in
    let h : P k = subst P same (f.within, f.with) in
    record { within = h.0; found = f.found; with = h.1 }

-- nothing is taken out where there is no set of the type
pub none_without : (t : RecordType) (sets : List RRset) → find (is_of_type t) sets ≡ None → without_type sets t ≡ sets
none_without t [] e = refl
none_without t (s ∷ sets) e = by (is_of_type t s) e (none_without t sets)
  where
    by : (b : Bool) → cond b (Some s) (find (is_of_type t) sets) ≡ None → (find (is_of_type t) sets ≡ None → without_type sets t ≡ sets) → cond b sets (s ∷ without_type sets t) ≡ s ∷ sets
    by true e more = let h : ⊥ = cc in absurd h
    by false e more = ap (λ (ss : List RRset). s ∷ ss) (more e)

-- What stands at a place that is there.
pub got_at : (sets : List RRset) (d : RRset) (k : ℕ) → k < length sets → slice_get sets k ≡ Some (get_or sets k d)
got_at [] d k below = absurd (omega arith)
got_at (s ∷ sets) d zero below = refl
got_at (s ∷ sets) d (suc k) below = got_at sets d k (omega arith)

pub each_at : (P : RRset → Type 0) (sets : List RRset) (d : RRset) (k : ℕ) → AllByRecursion P sets → k < length sets → P (get_or sets k d)
each_at P [] d k all below = absurd (omega arith)
each_at P (s ∷ sets) d zero all below = all.0
each_at P (s ∷ sets) d (suc k) all below = each_at P sets d k all.1 (omega arith)

-- ---- what a change makes
-- a set's type stays
pub type_made : (change : Change) (o : Option RRset) → ((s : RRset) → o ≡ Some s → code_of s ≡ record_type_number (type_in change))
    → code_of (made change o) ≡ record_type_number (type_in change)
type_made (changes.Add r) None of = refl
type_made (changes.Add r) (Some s) of = of s refl
type_made (changes.Upsert r) None of = refl
type_made (changes.Upsert r) (Some s) of = by (takes s r)
  where
    by : (b : Bool) → code_of (cond b (with_one (is_single s.record_type) s r) s) ≡ record_type_number (type_in (changes.Upsert r))
    by true = of s refl
    by false = of s refl
type_made (changes.Put new) o of = refl

-- where there is none, one is made
pub alters_none : (change : Change) → true ≡ alters change None
alters_none (changes.Add r) = refl
alters_none (changes.Upsert r) = refl
alters_none (changes.Put set) = refl

first_named : (P : DomainName → Type 0) (alone : Bool) (name : DomainName) (records : List Record) (r : Record) → P r.name → P name
    → P (cond alone r.name (first_of_put r.name name records r))
first_named P true name records r mine there = mine
first_named P false name [] r mine there = mine
first_named P false name (s ∷ records) r mine there = by (rdata_eq s.rdata r.rdata)
  where
    by : (b : Bool) → P (cond b r.name name)
    by true = mine
    by false = there

one_owned : (key : List ℕ) (alone : Bool) (s : RRset) (r : Record) → name_key r.name ≡ key → IsOwnedAt key s → IsOwnedAt key (with_one alone s r)
one_owned key alone s r at is = record { owner = first_named (λ (n : DomainName). name_key n ≡ key) alone s.name s.records r at is.owner }

-- and so does its owner
pub owned_made : (key : List ℕ) (change : Change) (o : Option RRset) → name_key (owner_of change) ≡ key → ((s : RRset) → o ≡ Some s → IsOwnedAt key s)
    → IsOwnedAt key (made change o)
owned_made key (changes.Add r) None at of = record { owner = at }
owned_made key (changes.Add r) (Some s) at of = one_owned key (not (same_class r.dns_class s.dns_class)) s r at (of s refl)
owned_made key (changes.Upsert r) None at of = record { owner = at }
owned_made key (changes.Upsert r) (Some s) at of = by (takes s r)
  where
    by : (b : Bool) → IsOwnedAt key (cond b (with_one (is_single s.record_type) s r) s)
    by true = one_owned key (is_single s.record_type) s r at (of s refl)
    by false = of s refl
owned_made key (changes.Put new) o at of = record { owner = at }

-- ---- a node with a change of its owner
pub found_of : (P : RRset → Type 0) (t : RecordType) (sets : List RRset) (s : RRset) → AllByRecursion P sets → find (is_of_type t) sets ≡ Some s → P s
found_of P t [] s all e = let h : ⊥ = cc in absurd h
found_of P t (x ∷ sets) s all e = by (is_of_type t x) e (found_of P t sets s all.1)
  where
    by : (b : Bool) → cond b (Some x) (find (is_of_type t) sets) ≡ Some s → (find (is_of_type t) sets ≡ Some s → P s) → P s
    by true e more = let g : x ≡ s = cc in subst P g all.0
    by false e more = more e

pub found_type : (t : RecordType) (sets : List RRset) (s : RRset) → find (is_of_type t) sets ≡ Some s → code_of s ≡ record_type_number t
found_type t [] s e = let h : ⊥ = cc in absurd h
found_type t (x ∷ sets) s e = by (is_of_type t x) refl e (found_type t sets s)
  where
    by : (b : Bool) → is_of_type t x ≡ b → cond b (Some x) (find (is_of_type t) sets) ≡ Some s → (find (is_of_type t) sets ≡ Some s → code_of s ≡ record_type_number t) → code_of s ≡ record_type_number t
    by true is e more = let g : x ≡ s = cc in subst (λ (u : RRset). code_of u ≡ record_type_number t) g (eqb-true (code_of x) (record_type_number t) is)
    by false is e more = more e

pub change_type : (sets : List RRset) (change : Change) → code_of (made change (set_of_type (type_in change) sets)) ≡ record_type_number (type_in change)
change_type sets change = type_made change (set_of_type (type_in change) sets) (found_type (type_in change) sets)

pub change_owned : (key : List ℕ) (sets : List RRset) (change : Change) → name_key (owner_of change) ≡ key → AllByRecursion (IsOwnedAt key) sets
    → IsOwnedAt key (made change (set_of_type (type_in change) sets))
change_owned key sets change at all = owned_made key change (set_of_type (type_in change) sets) at (λ s e. found_of (IsOwnedAt key) (type_in change) sets s all e)

-- what each type's set is
pub find_change : (t : RecordType) (sets : List RRset) (change : Change)
    → find (is_of_type t) (with_change sets change) ≡ cond (same_record_type (type_in change) t) (Some (made change (set_of_type (type_in change) sets))) (find (is_of_type t) sets)
find_change t sets change =
    let new = made change (set_of_type (type_in change) sets) in
    find_with t new sets
    ∙ ap (λ (n : ℕ). cond (n == record_type_number t) (Some new) (find (is_of_type t) sets)) (change_type sets change)

pub same_owner : (key : List ℕ) (sets : List RRset) (name : DomainName) → key ≡ name_key name → AllByRecursion (IsOwnedAt key) sets
    → AllByRecursion (λ set. name_eq name set.name ≡ true) sets
same_owner key [] name at all = tt
same_owner key (s ∷ sets) name at all =
    (owner_test name key s all.0 ∙ ap (bytes_eq (name_key name)) at ∙ same_key name name ∙ name_eq_equiv.refl name, same_owner key sets name at all.1)

pub node_changed : (key : List ℕ) (old : List RRset) (change : Change) → key ≡ name_key (owner_of change) → AllByRecursion (IsOwnedAt key) old → TypesRise old
    → IsNode key (with_change old change)
node_changed key old change at all risen =
    IsNode-with key (made change (set_of_type (type_in change) old)) old (change_owned key old change (sym at) all) all risen

pub node_tried : {X : Type 0} (key : List ℕ) (old new : List RRset) (change : Change) (result : Result X AllocError) → IsNode key old → key ≡ name_key (owner_of change)
    → OnOk result (new ≡ with_change old change) → OnErr result (new ≡ old) → IsNode key new
node_tried key old new change (Ok u) node at done kept = rw done (node_changed key old change at node.owned node.rise)
node_tried key old new change (Err e) node at done kept = rw kept (record { filled = node.filled; owned = node.owned; rise = node.rise })

pub node_alone : (key : List ℕ) (new : List RRset) (change : Change) → key ≡ name_key (owner_of change) → new ≡ with_change [] change → IsNode key new
node_alone key new change at is = rw is (node_changed key [] change at tt tt)

-- ---- a node without a set
all_without : (P : RRset → Type 0) (sets : List RRset) (t : RecordType) → AllByRecursion P sets → AllByRecursion P (without_type sets t)
all_without P [] t all = tt
all_without P (s ∷ sets) t all = by (is_of_type t s) (all_without P sets t all.1)
  where
    by : (b : Bool) → AllByRecursion P (without_type sets t) → AllByRecursion P (cond b sets (s ∷ without_type sets t))
    by true more = all.1
    by false more = (all.0, more)

rise_without : (sets : List RRset) (t : RecordType) → TypesRise sets → TypesRise (without_type sets t)
rise_without [] t risen = tt
rise_without (s ∷ sets) t risen = by (is_of_type t s) (rise_without sets t risen.1)
  where
    by : (b : Bool) → TypesRise (without_type sets t) → TypesRise (cond b sets (s ∷ without_type sets t))
    by true more = risen.1
    by false more = (all_without (λ later. code_of s < record_type_number later.record_type) sets t risen.0, more)

filled_without : (sets : List RRset) (t : RecordType) → 0 < length sets → is_only sets t ≡ false → 0 < length (without_type sets t)
filled_without [] t some two = absurd (omega arith)
filled_without (s ∷ []) t some two = ap_filled (is_of_type t s) two
  where
    ap_filled : (b : Bool) → b ≡ false → 0 < length (cond b [] (s ∷ []))
    ap_filled true e = absurd (true≢false e)
    ap_filled false e = omega arith
filled_without (s ∷ u ∷ sets) t some two = by (is_of_type t s)
  where
    by : (b : Bool) → 0 < length (cond b (u ∷ sets) (s ∷ without_type (u ∷ sets) t))
    by true = omega arith
    by false = omega arith

pub node_without : (key : List ℕ) (sets : List RRset) (t : RecordType) → IsNode key sets → is_only sets t ≡ false → IsNode key (without_type sets t)
node_without key sets t node two = record {
  filled = filled_without sets t node.filled two;
  owned = all_without (IsOwnedAt key) sets t node.owned;
  rise = rise_without sets t node.rise;
}

-- the other types' sets are as they were
find_above : (n : ℕ) (t u : RecordType) (sets : List RRset) → record_type_number t ≤ n → AllByRecursion (λ later. n < record_type_number later.record_type) sets → same_record_type t u ≡ true
    → find (is_of_type u) sets ≡ None
find_above n t u sets h all same = none_above n u sets (let g = eqb-true (record_type_number t) (record_type_number u) same in omega arith) all

pub find_without : (t u : RecordType) (sets : List RRset) → TypesRise sets
    → find (is_of_type u) (without_type sets t) ≡ cond (same_record_type t u) None (find (is_of_type u) sets)
find_without t u [] risen = by (same_record_type t u)
  where
    by : (b : Bool) → find (is_of_type u) [] ≡ cond b None None
    by true = refl
    by false = refl
find_without t u (s ∷ sets) risen = by (is_of_type t s) (is_of_type u s) (same_record_type t u) refl refl refl (find_without t u sets risen.1)
  where
    by : (b c d : Bool) → is_of_type t s ≡ b → is_of_type u s ≡ c → same_record_type t u ≡ d
        → find (is_of_type u) (without_type sets t) ≡ cond d None (find (is_of_type u) sets)
        → find (is_of_type u) (cond b sets (s ∷ without_type sets t)) ≡ cond d None (cond c (Some s) (find (is_of_type u) sets))
    by true c true e f g ih =
        let same : code_of s ≡ record_type_number t = eqb-true (code_of s) (record_type_number t) e in
        find_above (code_of s) t u sets (omega arith) risen.0 g
    by true true false e f g ih =
        let one = eqb-true (code_of s) (record_type_number t) e in
        let other = eqb-true (code_of s) (record_type_number u) f in
        absurd (eqb-false (record_type_number t) (record_type_number u) g (sym one ∙ other))
    by true false false e f g ih = refl
    by false true true e f g ih =
        let other = eqb-true (code_of s) (record_type_number u) f in
        let one = eqb-true (record_type_number t) (record_type_number u) g in
        absurd (eqb-false (code_of s) (record_type_number t) e (other ∙ sym one))
    by false true false e f g ih = ap (λ (w : Bool). cond w (Some s) (find (is_of_type u) (without_type sets t))) f
    by false false d e f g ih = ap (λ (w : Bool). cond w (Some s) (find (is_of_type u) (without_type sets t))) f ∙ ih
