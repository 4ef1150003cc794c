-- The first element that passes a test, found by going through a list.
use Rattle.std.proofs.Common.{◌≡◌, ◌∙◌, ℕ, ◌+◌, ◌<◌, ◌≤◌, suc, zero, sym, ap, arith, length, drop}
use Rattle.std.specs.Prelude.{Bool, true, false, not, ◌||◌, List, [], ◌∷◌, Some, None, cond, get_or, nat_lt, position, slice_get}
use Rattle.std.specs.List.{list_any, position_or_len}
use Rattle.std.proofs.lemmas.Bool.{lt-ltb, le-ltb}
use Rattle.std.proofs.lemmas.List.{drop_all, drop_more}
use Rattle.std.proofs.lemmas.Option.{get_or_from_slice_get}

pub drop_at : {X : Type 0} (xs : List X) (i : ℕ) (x : X) → i < length xs → slice_get xs i ≡ Some x → drop i xs ≡ x ∷ drop (i + 1) xs
drop_at xs i x small at = drop_more xs i x small ∙ ap (λ (y : _). y ∷ drop (i + 1) xs) (get_or_from_slice_get xs i x x at)

module _ {X : Type 0} (p : X → Bool) where
  pub place_more : (xs : List X) (i : ℕ) (x : X) → i < length xs → slice_get xs i ≡ Some x → p x ≡ false → position_or_len p xs ≡ i + position_or_len p (drop i xs)
      → position_or_len p xs ≡ i + 1 + position_or_len p (drop (i + 1) xs)
  place_more xs i x small at fails whole =
      let n = position_or_len p (drop (i + 1) xs) in
      let next : position_or_len p (drop i xs) ≡ 1 + n = ap (position_or_len p) (drop_at xs i x small at) ∙ ap (λ (b : Bool). cond (not b) (1 + n) 0) fails in
      omega (arith, whole, next)

  pub place_here : (xs : List X) (i : ℕ) (x : X) → i < length xs → slice_get xs i ≡ Some x → p x ≡ true → position_or_len p xs ≡ i + position_or_len p (drop i xs) → Some i ≡ position p xs
  place_here xs i x small at passes whole =
      let n = position_or_len p (drop (i + 1) xs) in
      let next : position_or_len p (drop i xs) ≡ 0 = ap (position_or_len p) (drop_at xs i x small at) ∙ ap (λ (b : Bool). cond (not b) (1 + n) 0) passes in
      let is : position_or_len p xs ≡ i = omega (arith, whole, next) in
      sym (ap (λ (m : ℕ). cond (nat_lt m (length xs)) (Some m) None) is ∙ ap (λ (b : Bool). cond b (Some i) None) (lt-ltb i (length xs) small))

  pub place_none : (xs : List X) (i : ℕ) → length xs ≤ i → position_or_len p xs ≡ i + position_or_len p (drop i xs) → None ≡ position p xs
  place_none xs i end whole =
      let next : position_or_len p (drop i xs) ≡ 0 = ap (position_or_len p) (drop_all i xs end) in
      let is : position_or_len p xs ≡ i = omega (arith, whole, next) in
      sym (ap (λ (m : ℕ). cond (nat_lt m (length xs)) (Some m) None) is ∙ ap (λ (b : Bool). cond b (Some i) None) (le-ltb i (length xs) end))

  pub any_more : (xs : List X) (i : ℕ) (x : X) → i < length xs → slice_get xs i ≡ Some x → p x ≡ false → list_any p xs ≡ list_any p (drop i xs) → list_any p xs ≡ list_any p (drop (i + 1) xs)
  any_more xs i x small at fails whole =
      whole ∙ ap (list_any p) (drop_at xs i x small at) ∙ ap (λ (b : Bool). b || list_any p (drop (i + 1) xs)) fails

  pub any_here : (xs : List X) (i : ℕ) (x : X) → i < length xs → slice_get xs i ≡ Some x → p x ≡ true → list_any p xs ≡ list_any p (drop i xs) → true ≡ list_any p xs
  any_here xs i x small at passes whole =
      sym (whole ∙ ap (list_any p) (drop_at xs i x small at) ∙ ap (λ (b : Bool). b || list_any p (drop (i + 1) xs)) passes)

  pub any_none : (xs : List X) (i : ℕ) → length xs ≤ i → list_any p xs ≡ list_any p (drop i xs) → false ≡ list_any p xs
  any_none xs i end whole = sym (whole ∙ ap (list_any p) (drop_all i xs end))

-- What is read by its index is there.
pub there_at : {X : Type 0} (xs : List X) (at : ℕ) (x : X) → at < length xs → x ≡ get_or xs at x → slice_get xs at ≡ Some x
there_at [] at x below e = absurd (omega (arith, below))
there_at (z ∷ xs) zero x below e = ap (λ (v : _). Some v) (sym e)
there_at (z ∷ xs) (suc at) x below e = there_at xs at x (omega (arith, below)) e

pub there_or : {X : Type 0} (xs : List X) (at : ℕ) (d x : X) → at < length xs → x ≡ get_or xs at d → slice_get xs at ≡ Some x
there_or [] at d x below e = absurd (omega (arith, below))
there_or (z ∷ xs) zero d x below e = ap (λ (v : _). Some v) (sym e)
there_or (z ∷ xs) (suc at) d x below e = there_or xs at d x (omega (arith, below)) e
