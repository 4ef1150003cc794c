-- Which octet a text begins with, and what stands behind a backslash, or doesn't.
use Rattle.std.proofs.Common.{◌≡◌, ◌<◌, ◌&&◌, ℕ, true, false, List, ◌∷◌, sym, subst, arith}
use Rattle.std.specs.Prelude.{Option, Some, None, MatchOption}
use Rattle.std.specs.Char.{is_ascii_digit}
use Rattle.dnw_codes.specs.Ascii.{is_octal, octal_value}
use Rattle.dnw_label.specs.LabelText.{EscapeText, quoted, octal, OctetText, plain, escaped}

pub quoted_text : (a : ℕ) (text rest : List ℕ) → text ≡ a ∷ rest → is_ascii_digit a ≡ false → EscapeText text a rest
quoted_text a text rest e h = rw e (quoted a rest h)

pub octal_text : (a b c o : ℕ) (text r1 r2 r3 : List ℕ) → text ≡ a ∷ r1 → r1 ≡ b ∷ r2 → r2 ≡ c ∷ r3 → (is_octal a && is_octal b && is_octal c) ≡ true → octal_value a b c < 256 → octal_value a b c ≡ o → EscapeText text o r3
octal_text a b c o text r1 r2 r3 e1 e2 e3 tests small value =
    let whole : text ≡ a ∷ b ∷ c ∷ r3 = cc in
    rw whole (octal a b c o r3 tests (sym value) (omega arith))

pub no_octal_text : (a b c : ℕ) (rest : List ℕ) → is_ascii_digit a ≡ true → ((is_octal a && is_octal b && is_octal c) ≡ true × (octal_value a b c < 256) → ⊥) → (o : ℕ) (behind : List ℕ) → EscapeText (a ∷ b ∷ c ∷ rest) o behind → ⊥
no_octal_text a b c rest digit refused o behind (quoted _ _ no_digit) = absurd (cc)
no_octal_text a b c rest digit refused o behind (octal _ _ _ _ _ tests value small) = refused (tests, omega arith)

-- What stands behind a backslash is what the text begins with.
pub behind_slash : {X : Type 0} (first : X → ℕ) (rest : X → List ℕ) (found : Option X) (slash : ℕ) (text whole : List ℕ) → whole ≡ slash ∷ text → slash ≡ 92 → MatchOption found ((o : ℕ) (behind : List ℕ) → EscapeText text o behind → ⊥) (λ x. EscapeText text (first x) (rest x)) → MatchOption found ((o : ℕ) (behind : List ℕ) → OctetText whole o behind → ⊥) (λ x. OctetText whole (first x) (rest x))
behind_slash first rest (Some x) slash text whole e s h = rw e (escaped slash text (first x) (rest x) s h)
behind_slash first rest None slash text whole e s h = λ o behind. none o behind
  where
    no_octet : (o : ℕ) (behind : List ℕ) → OctetText (slash ∷ text) o behind → ⊥
    no_octet o behind (plain _ _ unlike) = unlike s
    no_octet o behind (escaped _ _ _ _ _ there) = h o behind there

    none : (o : ℕ) (behind : List ℕ) → OctetText whole o behind → ⊥
    none o behind there = no_octet o behind (subst (λ (t : List ℕ). OctetText t o behind) e there)
