-- Laws of octets in texts, and of what stands behind a backslash.
use Rattle.std.proofs.Common.{◌≡◌, ◌<◌, ◌&&◌, ℕ, true, List, [], refl, sym, ◌∙◌, arith, length}
use Rattle.std.proofs.lemmas.Bool.Decides.{nat_tests}
use Rattle.std.specs.Char.{is_ascii_digit}
use Rattle.dnw_codes.specs.Ascii.{is_octal}
use Rattle.dnw_label.specs.LabelText.{EscapeText, quoted, octal, OctetText, plain, escaped}

octal_is_digit : (a b c : ℕ) → (is_octal a && is_octal b && is_octal c) ≡ true → is_ascii_digit a ≡ true
octal_is_digit a b c tests = grind (arith, nat_tests)

-- One octet stands there only.
pub escape-same : (text : List ℕ) (o o' : ℕ) (r r' : List ℕ) → EscapeText text o r → EscapeText text o' r' → (o ≡ o') × (r ≡ r')
escape-same text o o' r r' (quoted _ _ _) (quoted _ _ _) = (refl, refl)
escape-same text o o' r r' (quoted _ _ unlike) (octal a b c _ _ tests _ _) = let yes = octal_is_digit a b c tests in absurd (cc)
escape-same text o o' r r' (octal a b c _ _ tests _ _) (quoted _ _ unlike) = let yes = octal_is_digit a b c tests in absurd (cc)
escape-same text o o' r r' (octal _ _ _ _ _ _ v _) (octal _ _ _ _ _ _ v' _) = (v ∙ sym v', refl)

pub escape-shorter : (text : List ℕ) (o : ℕ) (r : List ℕ) → EscapeText text o r → length r < length text
escape-shorter text o r (quoted _ _ _) = omega arith
escape-shorter text o r (octal _ _ _ _ _ _ _ _) = omega arith

-- A text begins with one octet only.
pub octet-same : (text : List ℕ) (o o' : ℕ) (r r' : List ℕ) → OctetText text o r → OctetText text o' r' → (o ≡ o') × (r ≡ r')
octet-same text o o' r r' (plain _ _ _) (plain _ _ _) = (refl, refl)
octet-same text o o' r r' (plain _ _ unlike) (escaped _ _ _ _ s _) = absurd (unlike s)
octet-same text o o' r r' (escaped _ _ _ _ s _) (plain _ _ unlike) = absurd (unlike s)
octet-same text o o' r r' (escaped _ rest _ _ _ one) (escaped _ _ _ _ _ other) = escape-same rest o o' r r' one other

pub octet-shorter : (text : List ℕ) (o : ℕ) (r : List ℕ) → OctetText text o r → length r < length text
octet-shorter text o r (plain _ _ _) = omega arith
octet-shorter _ o r (escaped _ rest _ _ _ h) = omega (arith, escape-shorter rest o r h)

pub no_octet_in_nothing : (o : ℕ) (r : List ℕ) → OctetText [] o r → ⊥
no_octet_in_nothing o r h = elim h [ ]
