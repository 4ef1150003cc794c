-- Printed labels (RFC 1035 5.1, with octal digits in escapes).
use Rattle.std.specs.Prelude.{ℕ, ◌+◌, ◌/◌, ◌%◌, ◌==◌, ◌&&◌, ◌||◌, ◌++◌, nat_le, Bool, List, [], ◌∷◌, true, false, if◌then◌else◌}
use Rattle.std.specs.Char.{is_ascii_alphanumeric}
use Rattle.std.specs.List.{flat_map}
use Rattle.dnw_codes.specs.Ascii.{asterisk, backslash, hyphen, underscore}

-- Characters that stand for themselves: letters, digits, `_`, at the first place `*`, at the others
-- `-`.
abbrev pub is_plain : Bool → ℕ → Bool
is_plain first c =
    is_ascii_alphanumeric c || c == underscore || (if first then c == asterisk else c == hyphen)

-- Three octal digits.
abbrev pub octal_print : ℕ → List ℕ
octal_print c = (48 + c / 64) ∷ (48 + c / 8 % 8) ∷ (48 + c % 8) ∷ []

-- Other printed characters stand behind a backslash, all else as a backslash and three octal
-- digits.
abbrev pub octet_print : Bool → ℕ → List ℕ
octet_print first c =
    if is_plain first c then c ∷ []
    else (if nat_le 33 c && nat_le c 126 then backslash ∷ c ∷ [] else backslash ∷ octal_print c)

abbrev pub label_print : List ℕ → List ℕ
label_print [] = []
label_print (c ∷ cs) = octet_print true c ++ flat_map (octet_print false) cs
