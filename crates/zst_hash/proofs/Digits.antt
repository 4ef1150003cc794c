-- Digits group by group.
use Rattle.std.proofs.Common.{◌≡◌, ◌+◌, ◌*◌, ◌/◌, ◌<◌, ◌≤◌, ℕ, List, [], ◌∷◌, ◌++◌, length, take, drop, refl, arith}
use Rattle.zst_hash.specs.Base32.{base32hex, eight_digits, group_number}

-- The first five octets, then the rest.
pub first_group : (octets : List ℕ) → 5 ≤ length octets
    → base32hex octets ≡ eight_digits (group_number (take 5 octets)) ++ base32hex (drop 5 octets)
first_group (a ∷ b ∷ c ∷ d ∷ e ∷ later) long = refl
first_group (a ∷ b ∷ c ∷ d ∷ []) long = absurd (omega (arith, long))
first_group (a ∷ b ∷ c ∷ []) long = absurd (omega (arith, long))
first_group (a ∷ b ∷ []) long = absurd (omega (arith, long))
first_group (a ∷ []) long = absurd (omega (arith, long))
first_group [] long = absurd (omega (arith, long))

-- Fewer than five octets.
pub last_group : (octets : List ℕ) → length octets < 5
    → base32hex octets ≡ take ((8 * length octets + 4) / 5) (eight_digits (group_number octets))
last_group (a ∷ b ∷ c ∷ d ∷ e ∷ later) short = absurd (omega (arith, short))
last_group (a ∷ b ∷ c ∷ d ∷ []) short = refl
last_group (a ∷ b ∷ c ∷ []) short = refl
last_group (a ∷ b ∷ []) short = refl
last_group (a ∷ []) short = refl
last_group [] short = refl
