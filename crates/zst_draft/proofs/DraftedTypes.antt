-- The drafts of an owner, type by type, and what a record of an update makes of them.
use Rattle.std.proofs.Common.{◌≡◌, ℕ, ◌+◌, ◌<◌, ◌≤◌, suc, zero, refl, ap, sym, ◌∙◌, arith, length, subst}
use Rattle.std.specs.Prelude.{Bool, true, false, not, ◌&&◌, ◌||◌, ◌==◌, List, [], ◌∷◌, ◌++◌, Option, Some, None, IfSome, cond, find, nat_lt, position, set, slice_get}
use Rattle.std.specs.List.{AllByRecursion, list_any, position_or_len}
use Rattle.std.proofs.lemmas.Bool.{and_parts, eq-eqb, eqb-true, ltb-false, ltb-true, ne_eqb, true≢false}
use Rattle.zst_map.specs.dnw_codes.declared.record_type.RecordType.{RecordType}
use Rattle.zst_map.specs.dnw_codes.RecordType.{record_type_number, same_record_type}
use Rattle.zst_map.specs.zst_handler.Updates.{set_of_type}
use Rattle.zst_map.specs.zst_record.RecordSets.{RRset}
use Rattle.zst_map.specs.ZoneMaps.{TypesRise}
use Rattle.zst_draft.specs.OwnerDrafts.{AllDrafted, DraftsSets, IsOwnerDraft, Stored, TypesDiffer, drafted_in, is_draft_of}
use Rattle.zst_draft.specs.SetDrafts.{IsSetDraft, is_filled, set_in}
use Rattle.zst_draft.specs.declared.set.SetDraft.{SetDraft}
use Rattle.zst_draft.proofs.OwnerSets.{found_above, found_own}
use Rattle.zst_draft.proofs.SetDrafts.{filled_is, unfilled}

-- ---- lists
pub each_got : {X : Type 0} (P : X → Type 0) (xs : List X) (i : ℕ) (x : X) → AllByRecursion P xs → slice_get xs i ≡ Some x → P x
each_got P [] i x all at = let h : ⊥ = cc in absurd h
each_got P (y ∷ xs) zero x all at = let e : y ≡ x = cc in subst P e all.0
each_got P (y ∷ xs) (suc i) x all at = each_got P xs i x all.1 at

pub each_set : {X : Type 0} (P : X → Type 0) (xs : List X) (i : ℕ) (x : X) → AllByRecursion P xs → P x → AllByRecursion P (set xs i x)
each_set P [] i x all is = tt
each_set P (y ∷ xs) zero x all is = (is, all.1)
each_set P (y ∷ xs) (suc i) x all is = (all.0, each_set P xs i x all.1 is)

pub each_more : {X : Type 0} (P : X → Type 0) (xs : List X) (x : X) → AllByRecursion P xs → P x → AllByRecursion P (xs ++ x ∷ [])
each_more P [] x all is = (is, tt)
each_more P (y ∷ xs) x all is = (all.0, each_more P xs x all.1 is)

find_any : {X : Type 0} (f q : X → Bool) (xs : List X) (x : X) → find f xs ≡ Some x → q x ≡ true → list_any q xs ≡ true
find_any f q [] x e is = let h : ⊥ = cc in absurd h
find_any f q (y ∷ xs) x e is = by (f y) e (find_any f q xs x)
  where
    or_true : (b : Bool) → (b || true) ≡ true
    or_true true = refl
    or_true false = refl

    by : (b : Bool) → cond b (Some y) (find f xs) ≡ Some x → (find f xs ≡ Some x → q x ≡ true → list_any q xs ≡ true) → (q y || list_any q xs) ≡ true
    by true e more = let same : x ≡ y = cc in ap (λ (b : Bool). b || list_any q xs) (sym (ap q same) ∙ is)
    by false e more = ap (λ (b : Bool). q y || b) (more e is) ∙ or_true (q y)

-- ---- where a test passes
module _ {X : Type 0} (p : X → Bool) where
  found_step : (b : Bool) (y : X) (xs : List X) (n : ℕ) → (n < length xs → find p xs ≡ slice_get xs n) → cond (not b) (1 + n) 0 < 1 + length xs
      → cond b (Some y) (find p xs) ≡ slice_get (y ∷ xs) (cond (not b) (1 + n) 0)
  found_step true y xs n more h = refl
  found_step false y xs n more h = let e : 1 + n ≡ suc n = omega arith in rw e (more (omega arith))

  found_within : (xs : List X) → position_or_len p xs < length xs → find p xs ≡ slice_get xs (position_or_len p xs)
  found_within [] h = absurd (omega arith)
  found_within (y ∷ xs) h = found_step (p y) y xs (position_or_len p xs) (found_within xs) (omega arith)

  missed_step : (b : Bool) (y : X) (xs : List X) (n : ℕ) → (length xs ≤ n → find p xs ≡ None) → 1 + length xs ≤ cond (not b) (1 + n) 0 → cond b (Some y) (find p xs) ≡ None
  missed_step true y xs n more h = absurd (omega arith)
  missed_step false y xs n more h = more (omega arith)

  missed : (xs : List X) → length xs ≤ position_or_len p xs → find p xs ≡ None
  missed [] h = refl
  missed (y ∷ xs) h = missed_step (p y) y xs (position_or_len p xs) (missed xs) (omega arith)

  pub place_found : (xs : List X) (i : ℕ) → Some i ≡ position p xs → (find p xs ≡ slice_get xs i) × (i < length xs)
  place_found xs i e = by (nat_lt n (length xs)) refl e
    where
      n : ℕ
      n = position_or_len p xs

      by : (b : Bool) → nat_lt n (length xs) ≡ b → Some i ≡ cond b (Some n) None → (find p xs ≡ slice_get xs i) × (i < length xs)
      by true t s =
          let j : i ≡ n = cc in
          let h = ltb-true n (length xs) t in
          (found_within xs h ∙ ap (slice_get xs) (sym j), omega (arith, j, h))
      by false t s = let h : ⊥ = cc in absurd h

  pub none_found : (xs : List X) → None ≡ position p xs → find p xs ≡ None
  none_found xs e = by (nat_lt (position_or_len p xs) (length xs)) refl e
    where
      by : (b : Bool) → nat_lt (position_or_len p xs) (length xs) ≡ b → None ≡ cond b (Some (position_or_len p xs)) None → find p xs ≡ None
      by true t s = let h : ⊥ = cc in absurd h
      by false t s = missed xs (ltb-false (position_or_len p xs) (length xs) t)

  pub found_passes : (xs : List X) (x : X) → find p xs ≡ Some x → p x ≡ true
  found_passes [] x e = let h : ⊥ = cc in absurd h
  found_passes (y ∷ xs) x e = by (p y) refl e (found_passes xs x)
    where
      by : (b : Bool) → p y ≡ b → cond b (Some y) (find p xs) ≡ Some x → (find p xs ≡ Some x → p x ≡ true) → p x ≡ true
      by true is e more = let same : y ≡ x = cc in sym (ap p same) ∙ is
      by false is e more = more e

-- A place that is found is one of the list.
pub place_below : {X : Type 0} (p : X → Bool) (xs : List X) (o : Option ℕ) (n : ℕ) → o ≡ position p xs → length xs ≡ n → IfSome o (λ at. at < n)
place_below p xs None n e long = tt
place_below p xs (Some i) n e long = subst (λ (m : ℕ). i < m) long (place_found p xs i e).1

-- ---- types by their numbers
abbrev number : SetDraft → ℕ
number draft = record_type_number draft.record_type

own_number : (t : RecordType) → same_record_type t t ≡ true
own_number t = eq-eqb (record_type_number t) (record_type_number t) refl

same_number : (t u : RecordType) → same_record_type t u ≡ true → record_type_number t ≡ record_type_number u
same_number t u e = eqb-true (record_type_number t) (record_type_number u) e

-- What is stored is looked for by the number of a type.
abbrev pub IsByNumber : Stored → Type 0
IsByNumber stored = (t u : RecordType) → same_record_type t u ≡ true → stored t ≡ stored u

-- ---- the draft of a type
pub drafted_found : (stored : Stored) (es : List SetDraft) (t : RecordType) (e : SetDraft) → find (is_draft_of t) es ≡ Some e → drafted_in stored es t ≡ set_in (stored e.record_type) e
drafted_found stored [] t e f = let h : ⊥ = cc in absurd h
drafted_found stored (d ∷ es) t e f = by (is_draft_of t d) f (drafted_found stored es t e)
  where
    by : (b : Bool) → cond b (Some d) (find (is_draft_of t) es) ≡ Some e → (find (is_draft_of t) es ≡ Some e → drafted_in stored es t ≡ set_in (stored e.record_type) e)
        → cond b (set_in (stored d.record_type) d) (drafted_in stored es t) ≡ set_in (stored e.record_type) e
    by true f more = let same : d ≡ e = cc in ap (λ (x : SetDraft). set_in (stored x.record_type) x) same
    by false f more = more f

pub drafted_none : (stored : Stored) (es : List SetDraft) (t : RecordType) → find (is_draft_of t) es ≡ None → drafted_in stored es t ≡ None
drafted_none stored [] t f = refl
drafted_none stored (d ∷ es) t f = by (is_draft_of t d) f (drafted_none stored es t)
  where
    by : (b : Bool) → cond b (Some d) (find (is_draft_of t) es) ≡ None → (find (is_draft_of t) es ≡ None → drafted_in stored es t ≡ None)
        → cond b (set_in (stored d.record_type) d) (drafted_in stored es t) ≡ None
    by true f more = let h : ⊥ = cc in absurd h
    by false f more = more f

-- Types of one number have one draft.
pub drafted_same : (stored : Stored) (es : List SetDraft) (t u : RecordType) → same_record_type t u ≡ true → drafted_in stored es t ≡ drafted_in stored es u
drafted_same stored [] t u same = refl
drafted_same stored (d ∷ es) t u same =
    ap (λ (n : ℕ). cond (number d == n) (set_in (stored d.record_type) d) (drafted_in stored es t)) (same_number t u same)
    ∙ ap (cond (is_draft_of u d) (set_in (stored d.record_type) d)) (drafted_same stored es t u same)

-- ---- one draft is changed
module _ (stored : Stored) (by_number : IsByNumber stored) (e f : SetDraft) (kind_is : same_record_type f.record_type e.record_type ≡ true) where
  of_both : (t : RecordType) → is_draft_of t f ≡ is_draft_of t e
  of_both t = ap (λ (n : ℕ). n == record_type_number t) (same_number f.record_type e.record_type kind_is)

  none_of_both : (d : SetDraft) → is_draft_of f.record_type d ≡ is_draft_of e.record_type d
  none_of_both d = ap (λ (n : ℕ). number d == n) (same_number f.record_type e.record_type kind_is)

  none_set : (t : RecordType) (es : List SetDraft) (i : ℕ) → slice_get es i ≡ Some e → find (is_draft_of t) (set es i f) ≡ None → find (is_draft_of t) es ≡ None
  none_set t [] i at none = refl
  none_set t (d ∷ es) zero at none = by (is_draft_of t f) (of_both t ∙ ap (is_draft_of t) (let same : e ≡ d = cc in same)) none
    where
      by : (b : Bool) → b ≡ is_draft_of t d → cond b (Some f) (find (is_draft_of t) es) ≡ None → cond (is_draft_of t d) (Some d) (find (is_draft_of t) es) ≡ None
      by true is none = let h : ⊥ = cc in absurd h
      by false is none = ap (λ (b : Bool). cond b (Some d) (find (is_draft_of t) es)) (sym is) ∙ none
  none_set t (d ∷ es) (suc i) at none = by (is_draft_of t d) none (none_set t es i at)
    where
      by : (b : Bool) → cond b (Some d) (find (is_draft_of t) (set es i f)) ≡ None → (find (is_draft_of t) (set es i f) ≡ None → find (is_draft_of t) es ≡ None)
          → cond b (Some d) (find (is_draft_of t) es) ≡ None
      by true none more = let h : ⊥ = cc in absurd h
      by false none more = more none

  differ_all : (t : RecordType) (es : List SetDraft) (i : ℕ) → slice_get es i ≡ Some e → AllByRecursion (λ other. is_draft_of t other ≡ false) es → AllByRecursion (λ other. is_draft_of t other ≡ false) (set es i f)
  differ_all t es i at all = each_set (λ other. is_draft_of t other ≡ false) es i f all (of_both t ∙ each_got (λ other. is_draft_of t other ≡ false) es i e all at)

  differ_first : (es : List SetDraft) → AllByRecursion (λ other. is_draft_of e.record_type other ≡ false) es → AllByRecursion (λ other. is_draft_of f.record_type other ≡ false) es
  differ_first [] all = tt
  differ_first (d ∷ es) all = (none_of_both d ∙ all.0, differ_first es all.1)

  pub differ_set : (es : List SetDraft) (i : ℕ) → slice_get es i ≡ Some e → TypesDiffer es → TypesDiffer (set es i f)
  differ_set [] i at differ = tt
  differ_set (d ∷ es) zero at differ =
      let same : d ≡ e = cc in
      (differ_first es (subst (λ (x : SetDraft). AllByRecursion (λ other. is_draft_of x.record_type other ≡ false) es) same differ.0), differ.1)
  differ_set (d ∷ es) (suc i) at differ = (differ_all d.record_type es i at differ.0, differ_set es i at differ.1)

  pub all_set : (es : List SetDraft) (i : ℕ) → slice_get es i ≡ Some e → AllDrafted stored es → AllDrafted stored (set es i f)
  all_set es i at all = λ t none. all t (none_set t es i at none)

  pub drafted_set : (es : List SetDraft) (i : ℕ) (t : RecordType) → slice_get es i ≡ Some e → TypesDiffer es
      → drafted_in stored (set es i f) t ≡ cond (same_record_type e.record_type t) (set_in (stored e.record_type) f) (drafted_in stored es t)
  drafted_set [] i t at differ = let h : ⊥ = cc in absurd h
  drafted_set (d ∷ es) zero t at differ =
      let same : e ≡ d = cc in
      ap (λ (b : Bool). cond b (set_in (stored f.record_type) f) (drafted_in stored es t)) (of_both t)
      ∙ ap (λ (o : Option RRset). cond (is_draft_of t e) (set_in o f) (drafted_in stored es t)) (by_number f.record_type e.record_type kind_is)
      ∙ by (is_draft_of t e) (sym (ap (is_draft_of t) same))
    where
      by : (b : Bool) → is_draft_of t d ≡ b → cond b (set_in (stored e.record_type) f) (drafted_in stored es t)
          ≡ cond b (set_in (stored e.record_type) f) (cond (is_draft_of t d) (set_in (stored d.record_type) d) (drafted_in stored es t))
      by true is = refl
      by false is = sym (ap (λ (b : Bool). cond b (set_in (stored d.record_type) d) (drafted_in stored es t)) is)
  drafted_set (d ∷ es) (suc i) t at differ =
      ap (cond (is_draft_of t d) (set_in (stored d.record_type) d)) (drafted_set es i t at differ.1)
      ∙ by (is_draft_of t d) (is_draft_of t e) refl refl
    where
      apart : is_draft_of d.record_type e ≡ false
      apart = each_got (λ other. is_draft_of d.record_type other ≡ false) es i e differ.0 at

      both : is_draft_of t d ≡ true → is_draft_of t e ≡ true → ⊥
      both first second =
          let h : number e ≡ number d = same_number e.record_type t second ∙ sym (same_number d.record_type t first) in
          true≢false (sym (eq-eqb (number e) (number d) h) ∙ apart)

      by : (b c : Bool) → is_draft_of t d ≡ b → is_draft_of t e ≡ c
          → cond b (set_in (stored d.record_type) d) (cond c (set_in (stored e.record_type) f) (drafted_in stored es t))
          ≡ cond c (set_in (stored e.record_type) f) (cond b (set_in (stored d.record_type) d) (drafted_in stored es t))
      by true true first second = absurd (both first second)
      by true false first second = refl
      by false true first second = refl
      by false false first second = refl

-- ---- one draft is more
none_more : (t : RecordType) (es : List SetDraft) (f : SetDraft) → find (is_draft_of t) (es ++ f ∷ []) ≡ None → find (is_draft_of t) es ≡ None
none_more t [] f none = refl
none_more t (d ∷ es) f none = by (is_draft_of t d) none (none_more t es f)
  where
    by : (b : Bool) → cond b (Some d) (find (is_draft_of t) (es ++ f ∷ [])) ≡ None → (find (is_draft_of t) (es ++ f ∷ []) ≡ None → find (is_draft_of t) es ≡ None)
        → cond b (Some d) (find (is_draft_of t) es) ≡ None
    by true none more = let h : ⊥ = cc in absurd h
    by false none more = more none

none_is : (t : RecordType) (d : SetDraft) (es : List SetDraft) → find (is_draft_of t) (d ∷ es) ≡ None → (is_draft_of t d ≡ false) × (find (is_draft_of t) es ≡ None)
none_is t d es none = by (is_draft_of t d) none
  where
    by : (b : Bool) → cond b (Some d) (find (is_draft_of t) es) ≡ None → (b ≡ false) × (find (is_draft_of t) es ≡ None)
    by true none = let h : ⊥ = cc in absurd h
    by false none = (refl, none)

differ_more : (es : List SetDraft) (f : SetDraft) → find (is_draft_of f.record_type) es ≡ None → TypesDiffer es → TypesDiffer (es ++ f ∷ [])
differ_more [] f none differ = (tt, tt)
differ_more (d ∷ es) f none differ =
    let parts = none_is f.record_type d es none in
    let apart : is_draft_of d.record_type f ≡ false =
    ne_eqb (number f) (number d) (λ (h : number f ≡ number d). true≢false (sym (eq-eqb (number d) (number f) (sym h)) ∙ parts.0)) in
    (each_more (λ other. is_draft_of d.record_type other ≡ false) es f differ.0 apart, differ_more es f parts.1 differ.1)

pub owner_more : (stored : Stored) (es : List SetDraft) (f : SetDraft) → IsOwnerDraft stored es → IsSetDraft (stored f.record_type) f → find (is_draft_of f.record_type) es ≡ None → IsOwnerDraft stored (es ++ f ∷ [])
owner_more stored es f is of none = record {
  each = each_more (λ draft. IsSetDraft (stored draft.record_type) draft) es f is.each of;
  differ = differ_more es f none is.differ;
  all = λ t missing. is.all t (none_more t es f missing);
}

pub drafted_more : (stored : Stored) (es : List SetDraft) (f : SetDraft) (t : RecordType) → find (is_draft_of f.record_type) es ≡ None
    → drafted_in stored (es ++ f ∷ []) t ≡ cond (same_record_type f.record_type t) (set_in (stored f.record_type) f) (drafted_in stored es t)
drafted_more stored [] f t none = refl
drafted_more stored (d ∷ es) f t none =
    ap (cond (is_draft_of t d) (set_in (stored d.record_type) d)) (drafted_more stored es f t (none_is f.record_type d es none).1)
    ∙ by (is_draft_of t d) (is_draft_of t f) refl refl
  where
    both : is_draft_of t d ≡ true → is_draft_of t f ≡ true → ⊥
    both first second =
        let h : number d ≡ number f = same_number d.record_type t first ∙ sym (same_number f.record_type t second) in
        true≢false (sym (eq-eqb (number d) (number f) h) ∙ (none_is f.record_type d es none).0)

    by : (b c : Bool) → is_draft_of t d ≡ b → is_draft_of t f ≡ c
        → cond b (set_in (stored d.record_type) d) (cond c (set_in (stored f.record_type) f) (drafted_in stored es t))
        ≡ cond c (set_in (stored f.record_type) f) (cond b (set_in (stored d.record_type) d) (drafted_in stored es t))
    by true true first second = absurd (both first second)
    by true false first second = refl
    by false true first second = refl
    by false false first second = refl

-- ---- a test of the type alone, over all sets
-- Some set of the list passes.
record Passes (q : RRset → Bool) (sets : List RRset) : Type 0 where
  set : RRset
  among : set_of_type set.record_type sets ≡ Some set
  passes : q set ≡ true

passes_step : (q : RRset → Bool) (s : RRset) (sets : List RRset) → AllByRecursion (λ later. record_type_number s.record_type < record_type_number later.record_type) sets → Passes q sets → Passes q (s ∷ sets)
passes_step q s sets later found = record {
  set = found.set;
  among =
      let above : record_type_number s.record_type < record_type_number found.set.record_type = found_above (record_type_number s.record_type) found.set.record_type found.set sets later found.among in
      ap (λ (b : Bool). cond b (Some s) (set_of_type found.set.record_type sets))
      (ne_eqb (record_type_number s.record_type) (record_type_number found.set.record_type) (λ (h : record_type_number s.record_type ≡ record_type_number found.set.record_type). omega (arith, above, h)))
      ∙ found.among;
  passes = found.passes;
}

passes_by : (q : RRset → Bool) (sets : List RRset) → TypesRise sets → list_any q sets ≡ true → Passes q sets
passes_by q [] rise any = absurd (true≢false (sym any))
passes_by q (s ∷ sets) rise any = by (q s) refl any (λ more. passes_step q s sets rise.0 (passes_by q sets rise.1 more))
  where
    by : (b : Bool) → q s ≡ b → (b || list_any q sets) ≡ true → (list_any q sets ≡ true → Passes q (s ∷ sets)) → Passes q (s ∷ sets)
    by true is any more = record { set = s; among = found_own s sets; passes = is }
    by false is any more = more any

module _ (p : ℕ → Bool) where
  abbrev of_set : RRset → Bool
  of_set s = p (record_type_number s.record_type)

  abbrev of_draft : SetDraft → Bool
  of_draft d = is_filled d && p (number d)

  draft_passes : (stored : Stored) (es : List SetDraft) (s : RRset) → AllByRecursion (λ draft. IsSetDraft (stored draft.record_type) draft) es
      → drafted_in stored es s.record_type ≡ Some s → of_set s ≡ true → list_any of_draft es ≡ true
  draft_passes stored [] s all is passes = let h : ⊥ = cc in absurd h
  draft_passes stored (d ∷ es) s all is passes = by (is_draft_of s.record_type d) refl is (draft_passes stored es s all.1)
    where
      filled : (b : Bool) → is_filled d ≡ b → set_in (stored d.record_type) d ≡ Some s → is_filled d ≡ true
      filled true e is = e
      filled false e is = let h : None ≡ Some s = sym (unfilled (stored d.record_type) d.record_type d.records all.0 e) ∙ is in let g : ⊥ = cc in absurd g

      first : is_filled d ≡ true → p (number d) ≡ true → (of_draft d || list_any of_draft es) ≡ true
      first full same = rw (full, same) refl

      or_true : (b : Bool) → (b || true) ≡ true
      or_true true = refl
      or_true false = refl

      by : (b : Bool) → is_draft_of s.record_type d ≡ b → cond b (set_in (stored d.record_type) d) (drafted_in stored es s.record_type) ≡ Some s
          → (drafted_in stored es s.record_type ≡ Some s → of_set s ≡ true → list_any of_draft es ≡ true) → (of_draft d || list_any of_draft es) ≡ true
      by true same is more = first (filled (is_filled d) refl is) (ap p (same_number d.record_type s.record_type same) ∙ passes)
      by false same is more = ap (λ (b : Bool). of_draft d || b) (more is passes) ∙ or_true (of_draft d)

  -- Some draft passes.
  record DraftPasses (stored : Stored) (es : List SetDraft) : Type 0 where
    draft : SetDraft
    place : ℕ
    at : slice_get es place ≡ Some draft
    own : drafted_in stored es draft.record_type ≡ set_in (stored draft.record_type) draft
    passes : of_draft draft ≡ true

  first_draft : (stored : Stored) (d : SetDraft) (es : List SetDraft) → drafted_in stored (d ∷ es) d.record_type ≡ set_in (stored d.record_type) d
  first_draft stored d es = ap (λ (b : Bool). cond b (set_in (stored d.record_type) d) (drafted_in stored es d.record_type)) (own_number d.record_type)

  later_draft : (stored : Stored) (d : SetDraft) (es : List SetDraft) → AllByRecursion (λ other. is_draft_of d.record_type other ≡ false) es → DraftPasses stored es → DraftPasses stored (d ∷ es)
  later_draft stored d es apart found = record {
    draft = found.draft;
    place = suc found.place;
    at = found.at;
    own =
        let other : is_draft_of d.record_type found.draft ≡ false = each_got (λ other. is_draft_of d.record_type other ≡ false) es found.place found.draft apart found.at in
        ap (λ (b : Bool). cond b (set_in (stored d.record_type) d) (drafted_in stored es found.draft.record_type))
        (ne_eqb (number d) (number found.draft) (λ (h : number d ≡ number found.draft). true≢false (sym (eq-eqb (number found.draft) (number d) (sym h)) ∙ other)))
        ∙ found.own;
    passes = found.passes;
  }

  draft_passes_by : (stored : Stored) (es : List SetDraft) → TypesDiffer es → list_any of_draft es ≡ true → DraftPasses stored es
  draft_passes_by stored [] differ any = absurd (true≢false (sym any))
  draft_passes_by stored (d ∷ es) differ any = by (of_draft d) refl any (λ more. later_draft stored d es differ.0 (draft_passes_by stored es differ.1 more))
    where
      by : (b : Bool) → of_draft d ≡ b → (b || list_any of_draft es) ≡ true → (list_any of_draft es ≡ true → DraftPasses stored (d ∷ es)) → DraftPasses stored (d ∷ es)
      by true is any more = record { draft = d; place = 0; at = refl; own = first_draft stored d es; passes = is }
      by false is any more = more any

  from_sets : (stored : Stored) (es : List SetDraft) (sets : List RRset) → IsOwnerDraft stored es → DraftsSets stored es sets → list_any of_set sets ≡ true → list_any of_draft es ≡ true
  from_sets stored es sets is drafts any =
      let found = passes_by of_set sets drafts.rise any in
      draft_passes stored es found.set is.each (sym (drafts.alike found.set.record_type) ∙ found.among) found.passes

  from_drafts : (stored : Stored) (es : List SetDraft) (sets : List RRset) → IsOwnerDraft stored es → DraftsSets stored es sets → list_any of_draft es ≡ true → list_any of_set sets ≡ true
  from_drafts stored es sets is drafts any =
      let found = draft_passes_by stored es is.differ any in
      let d = found.draft in
      let parts = and_parts (is_filled d) (p (number d)) found.passes in
      let filled = filled_is (stored d.record_type) d.record_type d.records (each_got (λ draft. IsSetDraft (stored draft.record_type) draft) es found.place d is.each found.at) parts.0 in
      find_any (λ set. same_record_type set.record_type d.record_type) of_set sets filled.set (drafts.alike d.record_type ∙ found.own ∙ filled.is)
      (ap (λ (t : RecordType). p (record_type_number t)) filled.kind ∙ parts.1)

  same_any : (a b : Bool) → (a ≡ true → b ≡ true) → (b ≡ true → a ≡ true) → a ≡ b
  same_any true b there back = sym (there refl)
  same_any false true there back = back refl
  same_any false false there back = refl

  -- Drafts with records and drafted sets pass alike.
  pub any_alike : (stored : Stored) (es : List SetDraft) (sets : List RRset) → IsOwnerDraft stored es → DraftsSets stored es sets → list_any of_draft es ≡ list_any of_set sets
  any_alike stored es sets is drafts =
      same_any (list_any of_draft es) (list_any of_set sets) (from_drafts stored es sets is drafts) (from_sets stored es sets is drafts)
