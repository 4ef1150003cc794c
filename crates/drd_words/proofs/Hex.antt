-- Hex digits.
use Rattle.std.proofs.Common.{◌≡◌, ◌∙◌, ℕ, zero, suc, ◌+◌, ◌-◌, ◌<◌, ◌≤◌, List, [], ◌∷◌, ◌++◌, get_or, refl, ap, arith}
use Rattle.std.specs.Prelude.{slice_index}
use Rattle.std.specs.List.{flat_map}
use Rattle.hex.specs.Hex.{encode_lower, encode_with, lower_digits}
use Rattle.drd_words.specs.Print.{hex_pair}

abbrev upto : ℕ → ℕ → List ℕ
upto n zero = []
upto n (suc count) = n ∷ upto (n + 1) count

at_front : (n count i : ℕ) (rest : List ℕ) → i < count → get_or (upto n count ++ rest) i 0 ≡ n + i
at_front n zero i rest lt = absurd (omega (arith, lt))
at_front n (suc count) zero rest lt = omega arith
at_front n (suc count) (suc i) rest lt =
    let step : (n + 1) + i ≡ n + suc i = omega arith in
    at_front (n + 1) count i rest (omega (arith, lt)) ∙ step

at_rest : (n count i : ℕ) (rest : List ℕ) → count ≤ i → get_or (upto n count ++ rest) i 0 ≡ get_or rest (i - count) 0
at_rest n zero i rest le =
    let same : i ≡ i - 0 = omega arith in
    ap (λ (j : ℕ). get_or rest j 0) same
at_rest n (suc count) zero rest le = absurd (omega (arith, le))
at_rest n (suc count) (suc i) rest le =
    let same : i - count ≡ suc i - suc count = omega arith in
    at_rest (n + 1) count i rest (omega (arith, le)) ∙ ap (λ (j : ℕ). get_or rest j 0) same

-- `0` to `9`, then `a` to `f`.
digits_are : lower_digits ≡ upto 48 10 ++ (upto 97 6 ++ [])
digits_are = refl

pub low_digit : (digit : ℕ) → digit < 10 → slice_index lower_digits digit ≡ 48 + digit
low_digit digit lt = ap (λ (ds : List ℕ). get_or ds digit 0) digits_are ∙ at_front 48 10 digit (upto 97 6 ++ []) lt

pub high_digit : (digit : ℕ) → 10 ≤ digit → digit < 16 → slice_index lower_digits digit ≡ 87 + digit
high_digit digit le lt =
    let low : digit - 10 < 6 = omega (arith, le, lt) in
    let sum : 97 + (digit - 10) ≡ 87 + digit = omega (arith, le) in
    ap (λ (ds : List ℕ). get_or ds digit 0) digits_are ∙ at_rest 48 10 digit (upto 97 6 ++ []) le ∙ at_front 97 6 (digit - 10) [] low ∙ sum

-- The digits of all octets, octet by octet.
pub pairs_hex : (octets : List ℕ) → flat_map hex_pair octets ≡ encode_lower octets
unfolding encode_with
pairs_hex [] = refl
pairs_hex (octet ∷ octets) = ap (λ (t : List ℕ). hex_pair octet ++ t) (pairs_hex octets)
