-- Octets without a mark, and the parts between marks.
use Rattle.std.proofs.Common.{◌≡◌, ◌∙◌, ◌++◌, ◌==◌, ◌<◌, ◌≤◌, ℕ, zero, suc, Bool, true, false, not, List, [], ◌∷◌, length, get_or, take, refl, ap, arith}
use Rattle.std.specs.List.{list_all, slice_split, onto_first}
use Rattle.std.proofs.lemmas.Bool.{and_parts, and_from, not-true, both_ways, eq-eqb}
use Rattle.std.proofs.lemmas.List.Splits.{slice_split-cons_yes, slice_split-cons_no}

abbrev pub lacks : ℕ → List ℕ → Bool
lacks m xs = list_all (λ c. not (c == m)) xs

lacks-head : (m x : ℕ) (xs : List ℕ) → lacks m (x ∷ xs) ≡ true → (x == m) ≡ false
lacks-head m x xs h = not-true (x == m) (and_parts (not (x == m)) (lacks m xs) h).0

lacks-tail : (m x : ℕ) (xs : List ℕ) → lacks m (x ∷ xs) ≡ true → lacks m xs ≡ true
lacks-tail m x xs h = (and_parts (not (x == m)) (lacks m xs) h).1

-- No octet up to the first mark is one.
pub none_before : (m : ℕ) (xs : List ℕ) (i : ℕ) → i ≤ length xs → ((k : ℕ) → k < i → (get_or xs k 0 == m) ≡ false) → lacks m (take i xs) ≡ true
none_before m xs zero small none = refl
none_before m [] (suc i) small none = refl
none_before m (x ∷ xs) (suc i) small none =
    and_from (not (x == m)) (lacks m (take i xs)) (ap not (none 0 (omega arith)))
    (none_before m xs i (omega arith) (λ k h. none (suc k) (omega arith)))

abbrev pub semicolon : ℕ → Bool
semicolon c = c == 59

pub parts_of_one : (xs : List ℕ) → lacks 59 xs ≡ true → slice_split semicolon xs ≡ xs ∷ []
parts_of_one [] h = refl
parts_of_one (x ∷ xs) h =
    slice_split-cons_no semicolon x xs (lacks-head 59 x xs h) ∙ ap (onto_first x) (parts_of_one xs (lacks-tail 59 x xs h))

pub parts_of_more : (xs later : List ℕ) → lacks 59 xs ≡ true → slice_split semicolon (xs ++ 59 ∷ later) ≡ xs ∷ slice_split semicolon later
parts_of_more [] later h = slice_split-cons_yes semicolon 59 later refl
parts_of_more (x ∷ xs) later h =
    slice_split-cons_no semicolon x (xs ++ 59 ∷ later) (lacks-head 59 x xs h) ∙ ap (onto_first x) (parts_of_more xs later (lacks-tail 59 x xs h))

-- The octets before the first mark, and those behind it, are the only ones.
pub cut_once : (m : ℕ) (xs ys us vs : List ℕ) → lacks m xs ≡ true → lacks m ys ≡ true → xs ++ m ∷ us ≡ ys ++ m ∷ vs → (xs ≡ ys) × (us ≡ vs)
cut_once m [] [] us vs h k e = (refl, cc)
cut_once m [] (y ∷ ys) us vs h k e = let same : y ≡ m = cc in absurd (both_ways (y == m) (lacks-head m y ys k) (eq-eqb y m same))
cut_once m (x ∷ xs) [] us vs h k e = let same : x ≡ m = cc in absurd (both_ways (x == m) (lacks-head m x xs h) (eq-eqb x m same))
cut_once m (x ∷ xs) (y ∷ ys) us vs h k e =
    let head : x ≡ y = cc in
    let tail : xs ++ m ∷ us ≡ ys ++ m ∷ vs = cc in
    let rest = cut_once m xs ys us vs (lacks-tail m x xs h) (lacks-tail m y ys k) tail in
    (ap (λ z. z ∷ xs) head ∙ ap (λ z. y ∷ z) rest.0, rest.1)

pub no_cut : (m : ℕ) (xs ys vs : List ℕ) → lacks m xs ≡ true → xs ≡ ys ++ m ∷ vs → ⊥
no_cut m [] [] vs h e = absurd (cc)
no_cut m [] (y ∷ ys) vs h e = absurd (cc)
no_cut m (x ∷ xs) [] vs h e = let same : x ≡ m = cc in both_ways (x == m) (lacks-head m x xs h) (eq-eqb x m same)
no_cut m (x ∷ xs) (y ∷ ys) vs h e = let tail : xs ≡ ys ++ m ∷ vs = cc in no_cut m xs ys vs (lacks-tail m x xs h) tail
