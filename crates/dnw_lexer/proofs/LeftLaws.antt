-- What a word, a string or a list leaves of its text is shorter than this.
use Rattle.std.proofs.Common.{◌≡◌, ◌≢◌, ℕ, ◌<◌, ◌≤◌, suc, ◌&&◌, ◌||◌, ◌==◌, Bool, true, false, not, cond, List, [], ◌∷◌, length, refl, ap, subst, arith}
use Rattle.std.specs.Prelude.{Result, Ok, Err, Option, Some, None, MatchBool, nat_lt}
use Rattle.std.proofs.lemmas.Bool.Decides.{nat_tests}
use Rattle.dnw_codes.specs.declared.error.LexerError.{LexerError}
use Rattle.dnw_codes.specs.declared.error.LexerError.TheVariants.{UnrecognizedOctet, UnrecognizedChar}
use Rattle.dnw_codes.specs.Ascii.{is_blank, is_octal, octal_value}
use Rattle.dnw_lexer.specs.Lexer.{WordResult, prepend, after_gap, at_line_end, ends_word, octal_at, octal_or, escape, PlainText, ends, plain, escaped, bracket, cut, StringText, closes as string-closes, plain as string-plain, escaped as string-escaped, no_escape, unclosed as string-unclosed, ListWord}

-- How much is left behind a word.
abbrev pub left : WordResult → ℕ
left (Ok found) = length found.1
left (Err e) = 0

pub left-before : (w : List ℕ) (r : WordResult) → left (prepend w r) ≡ left r
left-before w (Ok found) = refl
left-before w (Err e) = refl

pub plain-left : (inside : Bool) (text : List ℕ) (r : WordResult) → PlainText inside text r → left r ≤ length text
plain-left inside text r (ends _ e) = omega arith
plain-left inside text r (plain c rest r' e n m p) = omega (arith, left-before (c ∷ []) r', plain-left inside rest r' p)
plain-left inside text r (escaped c d rest r' e p) = omega (arith, left-before (c ∷ d ∷ []) r', plain-left inside rest r' p)
plain-left inside text r (bracket c rest e n) = omega arith
plain-left inside text r (cut c e) = omega arith

pub plain-shorter : (inside : Bool) (c : ℕ) (rest : List ℕ) (r : WordResult) → ends_word inside (c ∷ rest) ≡ false → PlainText inside (c ∷ rest) r → left r < suc (length rest)
plain-shorter inside c rest r goes (ends _ e) = absurd (cc)
plain-shorter inside c rest r goes (plain _ _ r' e n m p) = omega (arith, left-before (c ∷ []) r', plain-left inside rest r' p)
plain-shorter inside c rest r goes (escaped _ d rest' r' e p) = omega (arith, left-before (c ∷ d ∷ []) r', plain-left inside rest' r' p)
plain-shorter inside c rest r goes (bracket _ _ e n) = omega arith
plain-shorter inside c rest r goes (cut _ e) = omega arith

-- What stands behind an octal escape is no longer than this.
abbrev MatchLeft : Option (ℕ × List ℕ) → ℕ → Type 0
MatchLeft None n = Unit {0}
MatchLeft (Some found) n = length found.1 ≤ n

digits-left : (a : ℕ) (rest : List ℕ) → MatchLeft (octal_at (a ∷ rest)) (length rest)
digits-left a [] = tt
digits-left a (b ∷ []) = tt
digits-left a (b ∷ c ∷ rest) = by_test (is_octal a && is_octal b && is_octal c)
  where
    by_test : (t : Bool) → MatchLeft (cond t (Some (octal_value a b c, rest)) None) (suc (suc (length rest)))
    by_test true = omega arith
    by_test false = tt

ok-behind : (r : Result (ℕ × List ℕ) LexerError) (x y : ℕ × List ℕ) → r ≡ Ok x → r ≡ Ok y → x.1 ≡ y.1
ok-behind r x y a b = let same : x ≡ y = cc in ap (λ (p : ℕ × List ℕ). p.1) same

octal-left : (o : Option (ℕ × List ℕ)) (a d : ℕ) (rest behind : List ℕ) → MatchLeft o (length rest) → octal_or o a rest ≡ Ok (d, behind) → length behind ≤ length rest
octal-left None a d rest behind h e = omega (arith, ap length (ok-behind (Ok (a, rest)) (a, rest) (d, behind) refl e))
octal-left (Some found) a d rest behind h e = by_test (nat_lt found.0 128) refl e
  where
    by_test : (b : Bool) → nat_lt found.0 128 ≡ b → cond b (Ok found) (Err (UnrecognizedOctet found.0)) ≡ Ok (d, behind) → length behind ≤ length rest
    by_test true t e = omega (arith, ap length (ok-behind (Ok found) found (d, behind) refl e), h)
    by_test false t e = absurd (cc)

escape-left : (d : ℕ) (text behind : List ℕ) → escape text ≡ Ok (d, behind) → length behind ≤ length text
escape-left d [] behind e = absurd (cc)
escape-left d (a ∷ rest) behind e = omega (arith, octal-left (octal_at (a ∷ rest)) a d rest behind (digits-left a rest) e)

pub string-left : (text : List ℕ) (r : WordResult) → StringText text r → left r ≤ length text
string-left text r (string-closes c rest e) = omega arith
string-left text r (string-plain c rest r' n m p) = omega (arith, left-before (c ∷ []) r', string-left rest r' p)
string-left text r (string-escaped c d rest behind r' e at p) = omega (arith, left-before (d ∷ []) r', string-left behind r' p, escape-left d rest behind at)
string-left text r (no_escape c rest e n at) = omega arith
string-left text r string-unclosed = omega arith

pub gap-left : (comment : Bool) (text : List ℕ) → length (after_gap comment text) ≤ length text
gap-left comment [] = omega arith
gap-left true (c ∷ cs) = omega (arith, gap-left (not (c == 10)) cs)
gap-left false (c ∷ cs) = by_tests (is_blank c || at_line_end (c ∷ cs)) (c == 59) (gap-left false cs) (gap-left true cs)
  where
    by_tests : (s t : Bool) → length (after_gap false cs) ≤ length cs → length (after_gap true cs) ≤ length cs → length (cond s (after_gap false cs) (cond t (after_gap true cs) (c ∷ cs))) ≤ suc (length cs)
    by_tests true t h k = omega (arith, h)
    by_tests false true h k = omega (arith, k)
    by_tests false false h k = omega arith

abbrev BeginsSolid : List ℕ → Type 0
BeginsSolid [] = Unit {0}
BeginsSolid (c ∷ rest) = ((is_blank c || at_line_end (c ∷ rest)) ≡ false) × ((c == 59) ≡ false)

-- What stands behind a gap begins with no blank, no line's end and no comment.
pub gap-head : (comment : Bool) (text : List ℕ) (c : ℕ) (rest : List ℕ) → after_gap comment text ≡ c ∷ rest → ((is_blank c || at_line_end (c ∷ rest)) ≡ false) × ((c == 59) ≡ false)
gap-head comment [] c rest e = absurd (cc)
gap-head true (d ∷ cs) c rest e = gap-head (not (d == 10)) cs c rest e
gap-head false (d ∷ cs) c rest e = by_tests (is_blank d || at_line_end (d ∷ cs)) (d == 59) refl refl (gap-head false cs c rest) (gap-head true cs c rest) e
  where
    by_tests : (s t : Bool) → (is_blank d || at_line_end (d ∷ cs)) ≡ s → (d == 59) ≡ t → (after_gap false cs ≡ c ∷ rest → ((is_blank c || at_line_end (c ∷ rest)) ≡ false) × ((c == 59) ≡ false)) → (after_gap true cs ≡ c ∷ rest → ((is_blank c || at_line_end (c ∷ rest)) ≡ false) × ((c == 59) ≡ false)) → cond s (after_gap false cs) (cond t (after_gap true cs) (d ∷ cs)) ≡ c ∷ rest → ((is_blank c || at_line_end (c ∷ rest)) ≡ false) × ((c == 59) ≡ false)
    by_tests true t a b h k e = h e
    by_tests false true a b h k e = k e
    by_tests false false a b h k e = subst BeginsSolid e (a, b)

solid : (c : ℕ) (rest : List ℕ) → (is_blank c || at_line_end (c ∷ rest)) ≡ false → (c == 59) ≡ false → c ≢ 41 → ends_word true (c ∷ rest) ≡ false
solid c rest a b other = by_tests (is_blank c) (at_line_end (c ∷ rest)) (c == 59) (c == 41) refl a b
  where
    by_tests : (p q s t : Bool) → (c == 41) ≡ t → (p || q) ≡ false → s ≡ false → (((p || s) || q) || (true && t)) ≡ false
    by_tests true q s t e a b = absurd (cc)
    by_tests false true s t e a b = absurd (cc)
    by_tests false false true t e a b = absurd (cc)
    by_tests false false false true e a b = absurd (other (is_41 c e))
      where
        is_41 : (n : ℕ) → (n == 41) ≡ true → n ≡ 41
        is_41 n e = grind (arith, nat_tests)
    by_tests false false false false e a b = refl

word-shorter : (c : ℕ) (rest : List ℕ) (r : WordResult) → ends_word true (c ∷ rest) ≡ false → ListWord c rest r → left r < suc (length rest)
word-shorter c rest r goes h = by_tests (c == 34) (c == 40) h
  where
    by_tests : (s t : Bool) → MatchBool s (StringText rest r) (MatchBool t (r ≡ Err (UnrecognizedChar c)) (PlainText true (c ∷ rest) r)) → left r < suc (length rest)
    by_tests true t p = omega (arith, string-left rest r p)
    by_tests false true p = omega (arith, ap left p)
    by_tests false false p = plain-shorter true c rest r goes p

-- Behind a word of a list less is left.
pub list-shorter : (text : List ℕ) (c : ℕ) (rest w behind : List ℕ) → after_gap false text ≡ c ∷ rest → c ≢ 41 → ListWord c rest (Ok (w, behind)) → length behind < length text
list-shorter text c rest w behind at other h =
    let head = gap-head false text c rest at in
    omega (arith, ap length at, gap-left false text, word-shorter c rest (Ok (w, behind)) (solid c rest head.0 head.1 other) h)
