-- Octets that are the same, eight at a time.
use Rattle.std.proofs.Common.{◌≡◌, ℕ, ◌+◌, ◌-◌, ◌<◌, ◌≤◌, List, length, take, drop, get_or, sym, ap, ◌∙◌, inl, inr, arith}
use Rattle.std.specs.Int.{from_be_bytes, to_be_bytes, w64}
use Rattle.std.proofs.lemmas.Bool.{cases_lt}
use Rattle.std.proofs.lemmas.List.{ext_get_or, get_or-drop, get_or-take, get_or_past, length-drop, length-take}
use Rattle.std.proofs.lemmas.Nat.{be_bytes_8}

-- So many octets of both are the same.
abbrev pub AreAlike : List ℕ → List ℕ → ℕ → Type 0
AreAlike xs ys n = (i : ℕ) → i < n → get_or xs i 0 ≡ get_or ys i 0

-- Octets in a list are below 256.
abbrev pub AreSmall : List ℕ → Type 0
AreSmall xs = (i : ℕ) → get_or xs i 0 < 256

-- This is the number of the eight octets from a place on.
abbrev pub IsWord : List ℕ → ℕ → ℕ → Type 0
IsWord xs at n = n ≡ from_be_bytes w64 (take 8 (drop at xs))

eight_long : (xs : List ℕ) (at : ℕ) → at + 8 ≤ length xs → length (take 8 (drop at xs)) ≡ 8
eight_long xs at within = omega (arith, within, length-take 8 (drop at xs), length-drop at xs)

eight_get : (xs : List ℕ) (at i : ℕ) → i < 8 → get_or (take 8 (drop at xs)) i 0 ≡ get_or xs (at + i) 0
eight_get xs at i lt = get_or-take 8 (drop at xs) i 0 lt ∙ get_or-drop at xs i 0

eight_small : (xs : List ℕ) (at : ℕ) → at + 8 ≤ length xs → AreSmall xs → AreSmall (take 8 (drop at xs))
eight_small xs at within small i = elim (cases_lt i 8) [
  | inl lt ↦ omega (arith, eight_get xs at i lt, small (at + i))
  | inr past ↦ omega (arith, get_or_past (take 8 (drop at xs)) i 0 (omega (arith, past, eight_long xs at within)))
]

eight_same : (xs ys : List ℕ) (at m n : ℕ) → at + 8 ≤ length xs → at + 8 ≤ length ys → AreSmall xs → AreSmall ys
    → IsWord xs at m → IsWord ys at n → m ≡ n → take 8 (drop at xs) ≡ take 8 (drop at ys)
eight_same xs ys at m n p q few less is is_other equal =
    sym (be_bytes_8 (take 8 (drop at xs)) m (eight_long xs at p) (eight_small xs at p few) is)
    ∙ ap (to_be_bytes w64) equal
    ∙ be_bytes_8 (take 8 (drop at ys)) n (eight_long ys at q) (eight_small ys at q less) is_other

at_eight : (xs : List ℕ) (at i : ℕ) → at ≤ i → i < at + 8 → get_or (take 8 (drop at xs)) (i - at) 0 ≡ get_or xs i 0
at_eight xs at i from within =
    eight_get xs at (i - at) (omega (arith, from, within)) ∙ ap (λ (j : ℕ). get_or xs j 0) (omega (arith, from))

-- Eight octets that are the same are alike, as those before.
pub eight_alike : (xs ys : List ℕ) (k at m n : ℕ) → at ≤ k → at + 8 ≤ length xs → at + 8 ≤ length ys → AreSmall xs → AreSmall ys → AreAlike xs ys k
    → IsWord xs at m → IsWord ys at n → m ≡ n → AreAlike xs ys (at + 8)
eight_alike xs ys k at m n before p q few less same is is_other equal i within = elim (cases_lt i k) [
  | inl old ↦ same i old
  | inr new ↦
      sym (at_eight xs at i (omega (arith, before, new)) within)
      ∙ ap (λ (l : List ℕ). get_or l (i - at) 0) (eight_same xs ys at m n p q few less is is_other equal)
      ∙ at_eight ys at i (omega (arith, before, new)) within
]

-- All are the same.
pub all_alike : (xs ys : List ℕ) (n : ℕ) → length xs ≡ length ys → length xs ≤ n → AreAlike xs ys n → xs ≡ ys
all_alike xs ys n long all same = ext_get_or 0 xs ys long (λ i lt. same i (omega (arith, lt, all)))

-- The same octets are the same number.
pub words_same : (xs ys : List ℕ) (at m n : ℕ) → IsWord xs at m → IsWord ys at n → xs ≡ ys → m ≡ n
words_same xs ys at m n is is_other same =
    is ∙ ap (λ (l : List ℕ). from_be_bytes w64 (take 8 (drop at l))) same ∙ sym is_other
