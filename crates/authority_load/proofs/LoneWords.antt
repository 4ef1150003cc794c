-- The only word of a text.
use Rattle.std.proofs.Common.{◌≡◌, refl, sym, ap, ◌∙◌, ℕ, Bool, true, false, List, [], ◌∷◌, ◌++◌}
use Rattle.std.specs.Str.{IsAscii}
use Rattle.std.proofs.lemmas.Str.Ascii.{IsAscii-nil, IsAscii-cons}
use Rattle.dnw_lexer.specs.dnw_codes.Ascii.{is_blank}
use Rattle.authority_load.specs.ZoneText.{words_of}
use Rattle.authority_load.proofs.WordPlaces.{behind_blank, blank_ascii, first_of}

abbrev pub AreBlanks : List ℕ → Type 0
AreBlanks [] = Unit {0}
AreBlanks (c ∷ cs) = (is_blank c ≡ true) × AreBlanks cs

pub ascii-blanks : (blanks : List ℕ) → AreBlanks blanks → IsAscii blanks
ascii-blanks [] h = IsAscii-nil
ascii-blanks (b ∷ blanks) h = IsAscii-cons b blanks (blank_ascii b h.0) (ascii-blanks blanks h.1)

pub both-ones : (x y : List ℕ) (xs ys : List (List ℕ)) → x ∷ xs ≡ y ∷ ys → (x ≡ y) × (xs ≡ ys)
both-ones x y xs ys e = (cc, cc)

none-left : (text : List ℕ) → words_of text ≡ [] → AreBlanks text
none-left [] e = tt
none-left (c ∷ cs) e = tested (is_blank c) refl (λ later. none-left cs later)
  where
    tested : (b : Bool) → is_blank c ≡ b → (words_of cs ≡ [] → AreBlanks cs) → AreBlanks (c ∷ cs)
    tested true blank below = (blank, below (sym (behind_blank c cs blank) ∙ e))
    tested false plain below =
        let first = first_of c cs plain in
        let both : first.0 ∷ words_of first.1 ≡ [] = sym first.3 ∙ e in
        absurd (cc)

-- Blanks, a word, and blanks.
pub record Alone (text word : List ℕ) : Type 0 where
  pub front : List ℕ
  pub back : List ℕ
  pub before : AreBlanks front
  pub behind : AreBlanks back
  pub parts : text ≡ front ++ (word ++ back)

pub alone : (text word : List ℕ) → words_of text ≡ word ∷ [] → Alone text word
alone [] word e = absurd (cc)
alone (c ∷ cs) word e = tested (is_blank c) refl (λ later. alone cs word later)
  where
    tested : (b : Bool) → is_blank c ≡ b → (words_of cs ≡ word ∷ [] → Alone cs word) → Alone (c ∷ cs) word
    tested true blank below =
        let later = below (sym (behind_blank c cs blank) ∙ e) in
        record { front = c ∷ later.front; back = later.back; before = (blank, later.before); behind = later.behind; parts = ap (λ t. c ∷ t) later.parts }
    tested false plain below =
        let first = first_of c cs plain in
        let both = both-ones first.0 word (words_of first.1) [] (sym first.3 ∙ e) in
        record { front = []; back = first.1; before = tt; behind = none-left first.1 both.1; parts = first.2 ∙ ap (λ w. w ++ first.1) both.0 }
