-- The next value on a circle, of values in order: none lies between.
use Rattle.std.proofs.Common.{◌≡◌, ◌<◌, ◌≤◌, get_or, ℕ, zero, suc, Bool, true, false, not, ◌&&◌, ◌||◌, List, [], ◌∷◌, refl, sym, ap, subst, ◌∙◌, inl, inr, ◌⊎◌, arith}
use Rattle.std.specs.Prelude.{length, Some, None, slice_get}
use Rattle.std.specs.Cmp.{IsTotalOrder}
use Rattle.std.specs.List.{AllByRecursion}
use Rattle.std.specs.List.Sorted.{IsStrictlySortedBy}
use Rattle.std.specs.Ordering.{is_eq, is_lt, ordering_reverse}
use Rattle.std.specs.declared.cmp.Ordering.{Ordering}
use Rattle.std.specs.declared.cmp.Ordering.TheVariants.{Less, Equal, Greater}
use Rattle.std.proofs.lemmas.Bool.{true≢false}
use Rattle.std.proofs.lemmas.Cmp.{tied_itself}
use Rattle.std.proofs.lemmas.Map.Keys.{sorted_head, sorted_tail}
use Rattle.zst_absence.specs.drd_denial.Between.{between_by}
use Rattle.zst_circle.specs.NsecCircle.{IsNext, is_among}

-- ---- by the three orderings alone
outside_cases : (a b c : Ordering) → ((is_lt b ≡ false) × (is_lt c ≡ false)) → (a ≡ Equal → b ≡ ordering_reverse c) → between_by a (is_lt b) (is_lt c) (not (is_eq b)) ≡ false
outside_cases Less Less c off same = absurd (true≢false off.0)
outside_cases Less Equal c off same = refl
outside_cases Less Greater c off same = refl
outside_cases Greater Less c off same = absurd (true≢false off.0)
outside_cases Greater Equal c off same = off.1
outside_cases Greater Greater c off same = off.1
outside_cases Equal Less c off same = absurd (true≢false off.0)
outside_cases Equal Equal c off same = refl
outside_cases Equal Greater Less off same = absurd (true≢false off.1)
outside_cases Equal Greater Equal off same = absurd (cc (same refl))
outside_cases Equal Greater Greater off same = absurd (cc (same refl))

either_cases : (b c : Ordering) → (is_lt b ≡ false) ⊎ (is_lt c ≡ false) → (is_lt b && is_lt c) ≡ false
either_cases Less c (inl e) = absurd (true≢false e)
either_cases Equal c (inl e) = refl
either_cases Greater c (inl e) = refl
either_cases b Less (inr e) = absurd (true≢false e)
either_cases Less Equal (inr e) = refl
either_cases Less Greater (inr e) = refl
either_cases Equal Equal (inr e) = refl
either_cases Equal Greater (inr e) = refl
either_cases Greater Equal (inr e) = refl
either_cases Greater Greater (inr e) = refl

is-equal : (o : Ordering) → is_eq o ≡ true → o ≡ Equal
is-equal Less e = absurd (true≢false (sym e))
is-equal Equal e = refl
is-equal Greater e = absurd (true≢false (sym e))

either_true : (a b : Bool) → b ≡ true → (a || b) ≡ true
either_true true b e = refl
either_true false b e = e

off : (o : Ordering) → (o ≡ Equal → ⊥) → is_eq o ≡ false
off Less none = refl
off Equal none = absurd (none refl)
off Greater none = refl

pub slice_at : {X : Type 0} (xs : List X) (i : ℕ) (x : X) → i < length xs → x ≡ get_or xs i x → slice_get xs i ≡ Some x
slice_at [] i x within e = absurd (omega (arith, within))
slice_at (y ∷ ys) zero x within e = ap Some (sym e)
slice_at (y ∷ ys) (suc i) x within e = slice_at ys i x (omega (arith, within)) e

pub slice_past : {X : Type 0} (xs : List X) (i : ℕ) → length xs ≤ i → slice_get xs i ≡ None
slice_past [] i past = refl
slice_past (y ∷ ys) zero past = absurd (omega (arith, past))
slice_past (y ∷ ys) (suc i) past = slice_past ys i (omega (arith, past))

module _ {X : Type 0} (cmp : X → X → Ordering) (total : IsTotalOrder cmp) where
  -- ---- a list in order, and two of its values one after the other
  -- x is outside where a value is that equals it
  outside_alike : (owner next x y : X) → cmp x y ≡ Equal → (is_lt (cmp owner y) ≡ false) × (is_lt (cmp y next) ≡ false) → (is_lt (cmp owner x) ≡ false) × (is_lt (cmp x next) ≡ false)
  outside_alike owner next x y same off = (
    ap is_lt (total.antisymm owner x ∙ ap ordering_reverse (total.congr x y owner same) ∙ sym (total.antisymm owner y)) ∙ off.0,
    ap is_lt (total.congr x y next same) ∙ off.1,
  )

  aside_alike : (owner next x y : X) → cmp x y ≡ Equal → (is_lt (cmp owner y) ≡ false) ⊎ (is_lt (cmp y next) ≡ false) → (is_lt (cmp owner x) ≡ false) ⊎ (is_lt (cmp x next) ≡ false)
  aside_alike owner next x y same (inl e) = inl (ap is_lt (total.antisymm owner x ∙ ap ordering_reverse (total.congr x y owner same) ∙ sym (total.antisymm owner y)) ∙ e)
  aside_alike owner next x y same (inr e) = inr (ap is_lt (total.congr x y next same) ∙ e)

  -- what holds of all values of a list, and of what equals one of them
  among_all : (P : X → Type 0) → ((x y : X) → cmp x y ≡ Equal → P y → P x) → (xs : List X) → AllByRecursion P xs → (x : X) → is_among cmp xs x ≡ true → P x
  among_all P alike [] all x in_it = absurd (true≢false (sym in_it))
  among_all P alike (y ∷ ys) all x in_it = by (is_eq (cmp x y)) refl in_it (λ h. among_all P alike ys all.1 x h) where
    by : (b : Bool) → is_eq (cmp x y) ≡ b → (b || is_among cmp ys x) ≡ true → (is_among cmp ys x ≡ true → P x) → P x
    by true same h later = alike x y (is-equal (cmp x y) same) all.0
    by false same h later = later h

  itself-lt : (x : X) → is_lt (cmp x x) ≡ false
  itself-lt x = ap is_lt (tied_itself total x)

  before-lt : (x y : X) → cmp x y ≡ Less → is_lt (cmp y x) ≡ false
  before-lt x y e = ap is_lt (total.antisymm y x ∙ ap ordering_reverse e)

  all_map : (P Q : X → Type 0) → ((y : X) → P y → Q y) → (xs : List X) → AllByRecursion P xs → AllByRecursion Q xs
  all_map P Q f [] all = tt
  all_map P Q f (x ∷ xs) all = (f x all.0, all_map P Q f xs all.1)

  all_at : (P : X → Type 0) (xs : List X) → AllByRecursion P xs → (i : ℕ) (x : X) → slice_get xs i ≡ Some x → P x
  all_at P [] all i x e = absurd (cc e)
  all_at P (y ∷ ys) all zero x e = let same : y ≡ x = cc e in subst P same all.0
  all_at P (y ∷ ys) all (suc i) x e = all_at P ys all.1 i x e

  Aside : X → X → X → Type 0
  Aside owner next y = (is_lt (cmp owner y) ≡ false) ⊎ (is_lt (cmp y next) ≡ false)

  aside_all : (xs : List X) → IsStrictlySortedBy cmp xs → (i : ℕ) (owner next : X) → slice_get xs i ≡ Some owner → slice_get xs (suc i) ≡ Some next → AllByRecursion (Aside owner next) xs
  unfolding Aside
  aside_all [] sorted i owner next here after = absurd (cc here)
  aside_all (a ∷ []) sorted zero owner next here after = absurd (cc after)
  aside_all (a ∷ b ∷ ys) sorted zero owner next here after =
      let first : a ≡ owner = cc here in
      let second : b ≡ next = cc after in
      let tail = sorted_tail cmp a (b ∷ ys) sorted in
      let behind = sorted_head cmp b ys tail in (
        inl (ap (λ (z : X). is_lt (cmp z a)) (sym first) ∙ itself-lt a),
        (
          inr (ap (λ (z : X). is_lt (cmp b z)) (sym second) ∙ itself-lt b),
          all_map (λ y. cmp b y ≡ Less) (λ y. (is_lt (cmp owner y) ≡ false) ⊎ (is_lt (cmp y next) ≡ false))
              (λ y e. inr (ap (λ (z : X). is_lt (cmp y z)) (sym second) ∙ before-lt b y e)) ys behind,
        ),
      )
  aside_all (a ∷ ys) sorted (suc i) owner next here after = (
    inl (before-lt a owner (all_at (λ y. cmp a y ≡ Less) ys (sorted_head cmp a ys sorted) i owner here)),
    aside_all ys (sorted_tail cmp a ys sorted) i owner next here after,
  )

  -- the last one has none after it, the first one none before it
  last_all : (xs : List X) → IsStrictlySortedBy cmp xs → (i : ℕ) (owner : X) → slice_get xs i ≡ Some owner → slice_get xs (suc i) ≡ None → AllByRecursion (λ y. is_lt (cmp owner y) ≡ false) xs
  last_all [] sorted i owner here end = absurd (cc here)
  last_all (a ∷ []) sorted zero owner here end = let first : a ≡ owner = cc here in (ap (λ (z : X). is_lt (cmp z a)) (sym first) ∙ itself-lt a, tt)
  last_all (a ∷ b ∷ ys) sorted zero owner here end = absurd (cc end)
  last_all (a ∷ ys) sorted (suc i) owner here end = (
    before-lt a owner (all_at (λ y. cmp a y ≡ Less) ys (sorted_head cmp a ys sorted) i owner here),
    last_all ys (sorted_tail cmp a ys sorted) i owner here end,
  )

  first_all : (a : X) (ys : List X) → IsStrictlySortedBy cmp (a ∷ ys) → AllByRecursion (λ y. is_lt (cmp y a) ≡ false) (a ∷ ys)
  first_all a ys sorted = (itself-lt a, all_map (λ y. cmp a y ≡ Less) (λ y. is_lt (cmp y a) ≡ false) (λ y e. before-lt a y e) ys (sorted_head cmp a ys sorted))

  -- each value of a list is among it
  among-itself : (xs : List X) (i : ℕ) (x : X) → slice_get xs i ≡ Some x → is_among cmp xs x ≡ true
  among-itself [] i x e = absurd (cc e)
  among-itself (y ∷ ys) zero x e = let same : y ≡ x = cc e in
      ap (λ (o : Ordering). is_eq o || is_among cmp ys x) (ap (cmp x) same ∙ tied_itself total x)
  among-itself (y ∷ ys) (suc i) x e = either_true (is_eq (cmp x y)) (is_among cmp ys x) (among-itself ys i x e)

  rises : (xs : List X) → IsStrictlySortedBy cmp xs → (i : ℕ) (owner next : X) → slice_get xs i ≡ Some owner → slice_get xs (suc i) ≡ Some next → cmp owner next ≡ Less
  rises [] sorted i owner next here after = absurd (cc here)
  rises (a ∷ ys) sorted zero owner next here after =
      let first : a ≡ owner = cc here in
      ap (λ (z : X). cmp z next) (sym first) ∙ all_at (λ y. cmp a y ≡ Less) ys (sorted_head cmp a ys sorted) zero next after
  rises (a ∷ ys) sorted (suc i) owner next here after = rises ys (sorted_tail cmp a ys sorted) i owner next here after

  -- ---- the next value follows, and after the last one the first
  pub follows_next : (xs : List X) → IsStrictlySortedBy cmp xs → (i : ℕ) (owner next : X) → slice_get xs i ≡ Some owner → slice_get xs (suc i) ≡ Some next → IsNext cmp (is_among cmp xs) owner next
  unfolding Aside
  follows_next xs sorted i owner next here after = record {
    on = among-itself xs (suc i) next after;
    none = λ x in_it.
        let off : (is_lt (cmp owner x) ≡ false) ⊎ (is_lt (cmp x next) ≡ false) = among_all (λ y. (is_lt (cmp owner y) ≡ false) ⊎ (is_lt (cmp y next) ≡ false)) (aside_alike owner next) xs (aside_all xs sorted i owner next here after) x in_it in
        ap (λ (o : Ordering). between_by o (is_lt (cmp owner x)) (is_lt (cmp x next)) (not (is_eq (cmp owner x)))) (rises xs sorted i owner next here after)
        ∙ either_cases (cmp owner x) (cmp x next) off;
  }

  both_all : (P Q : X → Type 0) (xs : List X) → AllByRecursion P xs → AllByRecursion Q xs → AllByRecursion (λ y. P y × Q y) xs
  both_all P Q [] p q = tt
  both_all P Q (x ∷ xs) p q = ((p.0, q.0), both_all P Q xs p.1 q.1)

  pub follows_first : (a : X) (ys : List X) → IsStrictlySortedBy cmp (a ∷ ys) → (i : ℕ) (owner : X) → slice_get (a ∷ ys) i ≡ Some owner → slice_get (a ∷ ys) (suc i) ≡ None → IsNext cmp (is_among cmp (a ∷ ys)) owner a
  follows_first a ys sorted i owner here end = record {
    on = among-itself (a ∷ ys) zero a refl;
    none = λ x in_it.
        let off = among_all (λ y. (is_lt (cmp owner y) ≡ false) × (is_lt (cmp y a) ≡ false)) (outside_alike owner a) (a ∷ ys)
        (both_all (λ y. is_lt (cmp owner y) ≡ false) (λ y. is_lt (cmp y a) ≡ false) (a ∷ ys) (last_all (a ∷ ys) sorted i owner here end) (first_all a ys sorted)) x in_it in
        outside_cases (cmp owner a) (cmp owner x) (cmp x a) off
        (λ same. total.congr owner a x same ∙ total.antisymm a x);
  }

  -- ---- by places
  pub next_at : (xs : List X) → IsStrictlySortedBy cmp xs → (i j : ℕ) (owner next : X) → j ≡ suc i → slice_get xs i ≡ Some owner → j < length xs → next ≡ get_or xs j next → IsNext cmp (is_among cmp xs) owner next
  next_at xs sorted i j owner next is here within e =
      follows_next xs sorted i owner next here (ap (slice_get xs) (sym is) ∙ slice_at xs j next within e)

  pub first_at : (xs : List X) → IsStrictlySortedBy cmp xs → (i j : ℕ) (owner next : X) → j ≡ suc i → slice_get xs i ≡ Some owner → length xs ≤ j → next ≡ get_or xs 0 next → IsNext cmp (is_among cmp xs) owner next
  first_at [] sorted i j owner next is here past e = absurd (cc here)
  first_at (a ∷ ys) sorted i j owner next is here past e =
      let same : a ≡ next = sym e in
      subst (λ (x : X). IsNext cmp (is_among cmp (a ∷ ys)) owner x) same
      (follows_first a ys sorted i owner here (ap (slice_get (a ∷ ys)) (sym is) ∙ slice_past (a ∷ ys) j past))
