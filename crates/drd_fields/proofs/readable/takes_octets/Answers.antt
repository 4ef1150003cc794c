use Rattle.std.proofs.Common.{◌==◌, not, ◌<◌, IsTrue, ℕ, List, [], ◌∷◌, Vec, Global, map, length, arith}
use Rattle.std.proofs.lemmas.Bool.Decides.{nat_tests}
use Rattle.std.specs.List.{flat_map}
use Rattle.drd_fields.specs.Writing.{string_octets}
use Rattle.drd_fields.proofs.readable.takes_octets.Goals as goal

-- Strings take octets where there are some.
strings_take : (ss : List (Vec ℕ Global)) → (IsTrue (not (length ss == 0)) → 0 < length (flat_map string_octets (map (λ s. s.items) ss))) × (0 < length (flat_map string_octets (map (λ s. s.items) ss)) → IsTrue (not (length ss == 0)))
strings_take [] = (λ some. absurd (cc some), λ some. absurd (omega (arith, some)))
strings_take (s ∷ ss) = (λ some. omega arith, λ some. grind (arith, nat_tests))

pub returns-in-Strings : goal.returns-in-Strings
returns-in-Strings c = rw (c.in-Strings.is, c.is_empty.ensures) (strings_take c.in-Strings.strings.now)
