-- Octets in base 32, with the extended hex alphabet in small letters and without padding (RFC 4648,
-- section 7).
use Rattle.std.specs.Prelude.{ℕ, ◌+◌, ◌*◌, ◌/◌, ◌%◌, ◌^◌, List, [], ◌∷◌, ◌++◌, length, take, get_or, nat_lt, if◌then◌else◌}

-- Five bits: 0 to 9, then a to v.
abbrev pub digit : ℕ → ℕ
digit n = if nat_lt (n % 32) 10 then 48 + n % 32 else 87 + n % 32

-- 40 bits, the highest first.
abbrev pub eight_digits : ℕ → List ℕ
eight_digits n =
    digit (n / 2 ^ 35) ∷ digit (n / 2 ^ 30) ∷ digit (n / 2 ^ 25) ∷ digit (n / 2 ^ 20)
    ∷ digit (n / 2 ^ 15) ∷ digit (n / 2 ^ 10) ∷ digit (n / 2 ^ 5) ∷ digit n ∷ []

-- Five octets as a number, the first one highest; missing ones are zero.
abbrev pub group_number : List ℕ → ℕ
group_number octets =
    (((get_or octets 0 0 * 256 + get_or octets 1 0) * 256 + get_or octets 2 0) * 256
    + get_or octets 3 0) * 256 + get_or octets 4 0

-- Eight digits for each five octets; at the end as many as hold the bits that are left.
abbrev pub base32hex : List ℕ → List ℕ
base32hex (a ∷ b ∷ c ∷ d ∷ e ∷ later) =
    eight_digits (group_number (a ∷ b ∷ c ∷ d ∷ e ∷ [])) ++ base32hex later
base32hex last = take ((8 * length last + 4) / 5) (eight_digits (group_number last))
