-- Printed character strings (RFC 1035 5.1, with octal digits in escapes), and octets in hex.
use Rattle.std.specs.Prelude.{ℕ, ◌/◌, ◌%◌, ◌==◌, ◌&&◌, ◌||◌, nat_le, List, [], ◌∷◌, ◌++◌, if◌then◌else◌, slice_index}
use Rattle.std.specs.List.{flat_map}
use Rattle.dnw_lexer.specs.dnw_codes.Ascii.{backslash, double_quote, space}
use Rattle.dnw_name.specs.dnw_label.LabelPrint.{octal_print}
use Rattle.hex.specs.Hex.{lower_digits}

-- A quote and a backslash stand behind a backslash, other printed characters and the space for
-- themselves, all else as a backslash and three octal digits.
abbrev pub escaped_octet : ℕ → List ℕ
escaped_octet c =
    if c == double_quote || c == backslash then backslash ∷ c ∷ []
    else (if nat_le 32 c && nat_le c 126 then c ∷ [] else backslash ∷ octal_print c)

abbrev pub escaped_print : List ℕ → List ℕ
escaped_print octets = flat_map escaped_octet octets

-- A string between quotes.
abbrev pub quotation : List ℕ → List ℕ
quotation octets = double_quote ∷ (escaped_print octets ++ double_quote ∷ [])

-- Words, each but the first behind a space.
abbrev pub words_from : List ℕ → List (List ℕ) → List ℕ
words_from first words = first ++ flat_map (λ word. space ∷ word) words

-- The two hex digits of an octet, the high four bits first (RFC 4648 8).
abbrev pub hex_pair : ℕ → List ℕ
hex_pair octet = slice_index lower_digits (octet / 16) ∷ slice_index lower_digits (octet % 16) ∷ []
