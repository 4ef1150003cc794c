-- Labels of domain names (RFC 1035 2.3.4 and 3.1; RFC 4343: without regard to the case of ASCII
-- letters).
use Rattle.std.specs.Prelude.{ℕ, ◌<◌, ◌≤◌, Bool, List, [], ◌∷◌, length}
use Rattle.std.specs.Cmp.Lexicographic.{slice_cmp}
use Rattle.std.specs.Ordering.{on, nat_cmp}
use Rattle.std.specs.declared.cmp.Ordering.{Ordering}
use Rattle.std.specs.Str.{bytes_eq, str_to_ascii_lowercase}
use Rattle.dnw_codes.specs.Ascii.{asterisk}

-- RFC 1035 2.3.4: a label has 1 to 63 octets.
pub record IsLabel (octets : List ℕ) : Type 0 where
  pub some : 0 < length octets
  pub few : length octets ≤ 63

-- The same labels, up to the case of ASCII letters.
abbrev pub label_eq : List ℕ → List ℕ → Bool
label_eq = on str_to_ascii_lowercase bytes_eq

-- RFC 4034 6.1: labels are compared as strings of octets in lower case.
abbrev pub label_cmp : List ℕ → List ℕ → Ordering
label_cmp = on str_to_ascii_lowercase (slice_cmp nat_cmp)

-- The label of a wildcard, an asterisk (RFC 4592 2.1.1).
abbrev pub wildcard_label : List ℕ
wildcard_label = asterisk ∷ []

abbrev pub is_wildcard_label : List ℕ → Bool
is_wildcard_label octets = bytes_eq octets wildcard_label
