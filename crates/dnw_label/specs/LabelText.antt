-- Texts of labels (RFC 1035 5.1, with octal digits in escapes).
use Rattle.std.specs.Prelude.{ℕ, ◌≡◌, ◌≢◌, ◌<◌, ◌==◌, ◌&&◌, ◌||◌, Bool, true, false, List, [], ◌∷◌}
use Rattle.std.specs.Char.{is_ascii_digit, is_ascii_alphanumeric}
use Rattle.std.specs.List.{list_all}
use Rattle.dnw_codes.specs.Ascii.{asterisk, backslash, full_stop, hyphen, underscore, is_octal, octal_value}
use Rattle.dnw_label.specs.Label.{IsLabel}

-- ASCII letters, digits, `_` and `.`, and at the first place `*`, at the others `-`.
abbrev pub starts_label : ℕ → Bool
starts_label c = is_ascii_alphanumeric c || c == underscore || c == full_stop || c == asterisk

abbrev pub continues_label : ℕ → Bool
continues_label c = is_ascii_alphanumeric c || c == underscore || c == full_stop || c == hyphen

abbrev pub is_label_text : List ℕ → Bool
is_label_text [] = false
is_label_text (c ∷ cs) = starts_label c && list_all continues_label cs

-- A label that a text may have.
pub record IsTextLabel (label : List ℕ) : Type 0 where
  pub octets : is_label_text label ≡ true
  pub few : IsLabel label

-- What stands behind a backslash: a character that is no digit and stands for itself, or three
-- octal digits of an octet.
pub data EscapeText : List ℕ → ℕ → List ℕ → Type 0 where
  quoted : (c : ℕ) (behind : List ℕ) → is_ascii_digit c ≡ false → EscapeText (c ∷ behind) c behind
  octal : (a b c octet : ℕ) (behind : List ℕ) → (is_octal a && is_octal b && is_octal c) ≡ true
      → octet ≡ octal_value a b c → octet < 256 → EscapeText (a ∷ b ∷ c ∷ behind) octet behind

-- The text begins with this octet: one other than `\` stands for itself, and behind a backslash
-- stands what it escapes.
pub data OctetText : List ℕ → ℕ → List ℕ → Type 0 where
  plain : (c : ℕ) (behind : List ℕ) → c ≢ backslash → OctetText (c ∷ behind) c behind
  escaped : (slash : ℕ) (text : List ℕ) (c : ℕ) (behind : List ℕ) → slash ≡ backslash
      → EscapeText text c behind → OctetText (slash ∷ text) c behind

abbrev pub at_dot : List ℕ → Bool
at_dot [] = false
at_dot (c ∷ rest) = c == full_stop

-- The text begins with the octets of a label, up to its end or to a dot without a backslash.
pub data LabelText : List ℕ → List ℕ → List ℕ → Type 0 where
  ends : LabelText [] [] []
  dot : (c : ℕ) (rest : List ℕ) → c ≡ full_stop → LabelText (c ∷ rest) [] (c ∷ rest)
  octet : (text : List ℕ) (c : ℕ) (rest label behind : List ℕ) → at_dot text ≡ false
      → OctetText text c rest → LabelText rest label behind → LabelText text (c ∷ label) behind
