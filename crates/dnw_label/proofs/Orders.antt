-- Comparisons of lists, item by item.
use Rattle.std.proofs.Common.{◌≡◌, ℕ, ◌≤◌, ◌-◌, min, List, [], ◌∷◌, length, drop, map, refl, ap, arith, ◌⊎◌, inl, inr, ◌∙◌}
use Rattle.std.specs.Cmp.Lexicographic.{slice_cmp}
use Rattle.std.specs.Ordering.{nat_cmp, on, ordering_then}
use Rattle.std.specs.declared.cmp.Ordering.{Ordering}
use Rattle.std.proofs.lemmas.Bool.{cases_lt}
use Rattle.std.proofs.lemmas.Bool.Decides.{nat_tests}
use Rattle.std.proofs.lemmas.List.{length-drop}

-- Where one list is empty, the lengths decide.
pub slice_cmp-empty : {K : Type 0} (R : K → K → Ordering) (xs ys : List K) → (length xs ≡ 0) ⊎ (length ys ≡ 0) → slice_cmp R xs ys ≡ nat_cmp (length xs) (length ys)
slice_cmp-empty R [] [] h = refl
slice_cmp-empty R [] (y ∷ ys) h = grind (arith, nat_tests)
slice_cmp-empty R (x ∷ xs) [] h = grind (arith, nat_tests)
slice_cmp-empty R (x ∷ xs) (y ∷ ys) h = grind (arith, nat_tests)

nat_cmp_shifted : (a b n : ℕ) → n ≤ a → n ≤ b → nat_cmp (a - n) (b - n) ≡ nat_cmp a b
nat_cmp_shifted a b n p q = grind (arith, nat_tests)

-- Behind the shorter list, the lengths decide.
pub slice_cmp-behind_shorter : {K : Type 0} (R : K → K → Ordering) (xs ys : List K) (n : ℕ) → n ≡ min (length xs) (length ys) → slice_cmp R (drop n xs) (drop n ys) ≡ nat_cmp (length xs) (length ys)
slice_cmp-behind_shorter R xs ys n e =
    let left : length (drop n xs) ≡ length xs - n = length-drop n xs in
    let right : length (drop n ys) ≡ length ys - n = length-drop n ys in
    let ended : (length (drop n xs) ≡ 0) ⊎ (length (drop n ys) ≡ 0) = elim (cases_lt (length xs) (length ys)) [ inl h ↦ inl (omega arith) | inr h ↦ inr (omega arith) ] in
    slice_cmp-empty R (drop n xs) (drop n ys) ended
    ∙ rw (left, right) (nat_cmp_shifted (length xs) (length ys) n (omega arith) (omega arith))

-- A comparison through a function is that of its values.
pub slice_cmp-map : {K J : Type 0} (f : K → J) (R : J → J → Ordering) (xs ys : List K) → slice_cmp (on f R) xs ys ≡ slice_cmp R (map f xs) (map f ys)
slice_cmp-map f R [] [] = refl
slice_cmp-map f R [] (y ∷ ys) = refl
slice_cmp-map f R (x ∷ xs) [] = refl
slice_cmp-map f R (x ∷ xs) (y ∷ ys) = ap (ordering_then (R (f x) (f y))) (slice_cmp-map f R xs ys)

-- Orders that answer alike compare lists alike.
pub slice_cmp-same : {K : Type 0} (R S : K → K → Ordering) → ((x y : K) → R x y ≡ S x y) → (xs ys : List K) → slice_cmp R xs ys ≡ slice_cmp S xs ys
slice_cmp-same R S e [] [] = refl
slice_cmp-same R S e [] (y ∷ ys) = refl
slice_cmp-same R S e (x ∷ xs) [] = refl
slice_cmp-same R S e (x ∷ xs) (y ∷ ys) =
    ap (λ o. ordering_then o (slice_cmp R xs ys)) (e x y) ∙ ap (ordering_then (S x y)) (slice_cmp-same R S e xs ys)
