-- Octets as a text with escapes (RFC 9460 2.1 by RFC 1035 5.1, with octal digits as they are
-- printed).
use Rattle.std.specs.Prelude.{ℕ, List, [], ◌∷◌}
use lib.Chars.{codes}
use Rattle.dnw_lexer.specs.dnw_codes.declared.error.ParseError.{ParseError}
use Rattle.dnw_name.specs.dnw_label.LabelText.{OctetText}
use Rattle.drd_words.specs.Refusals.{IsMessage}

-- The text of octets, one behind the other.
pub data EscapedText : List ℕ → List ℕ → Type 0 where
  ends : EscapedText [] []
  more : (text : List ℕ) (octet : ℕ) (behind octets : List ℕ) → OctetText text octet behind
      → EscapedText behind octets → EscapedText text (octet ∷ octets)

-- A text that ends inside an escape, or has digits behind a backslash that are those of no octet.
abbrev pub RefusesEscapes : List ℕ → ParseError → Type 0
RefusesEscapes text e =
    IsMessage (codes "a backslash that begins no octet") e
    × ((octets : List ℕ) → EscapedText text octets → ⊥)
