-- Behind a token less is left of the text.
use Rattle.std.proofs.Common.{◌≡◌, ℕ, ◌<◌, ◌≤◌, suc, ◌&&◌, ◌||◌, ◌==◌, Bool, true, false, cond, List, [], ◌∷◌, length, refl, ap, arith}
use Rattle.std.specs.Prelude.{Result, Ok, Err, Option, Some, None, MatchBool}
use Rattle.dnw_lexer.specs.dnw_codes.declared.error.LexerError.{LexerError}
use Rattle.dnw_lexer.specs.dnw_codes.Ascii.{is_blank}
use Rattle.dnw_lexer.specs.Lexer.{WordResult, Words, words_before, at_line_end, behind_line_end, begins_blank, without_blanks, line_end, without_comment, ends_word, ListText, closes, word, refused, unclosed, Lexeme, blank, end_of_line, Unread, unread, Given, lexeme_given, bare_lexeme, bare_given, string_given, list_given, BareToken, StringToken, ListToken, WordToken, LineToken, IsToken}
use Rattle.dnw_lexer.proofs.LeftLaws.{left, plain-shorter, string-left, gap-left, list-shorter}

abbrev words_left : Words → ℕ
words_left (Ok found) = length found.1
words_left (Err e) = 0

words_left-before : (w : List (List ℕ)) (r : Words) → words_left (words_before w r) ≡ words_left r
words_left-before w (Ok found) = refl
words_left-before w (Err e) = refl

abbrev given_left : Given → ℕ
given_left (Ok found) = length found.1.text
given_left (Err e) = 0

-- The token that is given, and what is given with a token.
abbrev first : Given → Option Lexeme
first (Ok found) = found.0
first (Err e) = None

abbrev token_then : Lexeme → Unread → Given
token_then lexeme after = Ok (Some lexeme, after)

-- What stands behind a list.
list-left : (text : List ℕ) (r : Words) → ListText text r → words_left r ≤ length text
list-left text r (closes _ c rest at e) = omega (arith, ap length at, gap-left false text)
list-left text r (word _ c rest w behind r' at other h p) =
    omega (arith, words_left-before (w ∷ []) r', list-left behind r' p, list-shorter text c rest w behind at other h)
list-left text r (refused _ c rest e at other h) = omega arith
list-left text r (unclosed _ at) = omega arith

-- What stands behind blanks and a comment.
blanks-left : (text : List ℕ) → length (without_blanks text) ≤ length text
blanks-left [] = omega arith
blanks-left (c ∷ cs) = by_test (is_blank c) (blanks-left cs)
  where
    by_test : (s : Bool) → length (without_blanks cs) ≤ length cs → length (cond s (without_blanks cs) (c ∷ cs)) ≤ suc (length cs)
    by_test true h = omega (arith, h)
    by_test false h = omega arith

line_end-left : (text : List ℕ) → length (line_end text) ≤ length text
line_end-left [] = omega arith
line_end-left (c ∷ cs) = by_test (at_line_end (c ∷ cs)) (line_end-left cs)
  where
    by_test : (s : Bool) → length (line_end cs) ≤ length cs → length (cond s (c ∷ cs) (line_end cs)) ≤ suc (length cs)
    by_test true h = omega arith
    by_test false h = omega (arith, h)

comment-left : (text : List ℕ) → length (without_comment text) ≤ length text
comment-left [] = omega arith
comment-left (c ∷ cs) = by_test (c == 59)
  where
    by_test : (s : Bool) → length (cond s (line_end cs) (c ∷ cs)) ≤ suc (length cs)
    by_test true = omega (arith, line_end-left cs)
    by_test false = omega arith

blank-shorter : (text : List ℕ) → begins_blank text ≡ true → length (without_blanks text) < length text
blank-shorter [] e = absurd (cc)
blank-shorter (c ∷ cs) e = rw e (omega (arith, blanks-left cs))

-- What a line has behind them begins with no blank and no comment.
abbrev BeginsNoBlank : List ℕ → Type 0
BeginsNoBlank [] = Unit {0}
BeginsNoBlank (c ∷ rest) = is_blank c ≡ false

blanks-head : (text : List ℕ) → BeginsNoBlank (without_blanks text)
blanks-head [] = tt
blanks-head (c ∷ cs) = by_test (is_blank c) refl (blanks-head cs)
  where
    by_test : (s : Bool) → is_blank c ≡ s → BeginsNoBlank (without_blanks cs) → BeginsNoBlank (cond s (without_blanks cs) (c ∷ cs))
    by_test true e h = h
    by_test false e h = e

abbrev BeginsAtEnd : List ℕ → Type 0
BeginsAtEnd [] = Unit {0}
BeginsAtEnd (c ∷ rest) = at_line_end (c ∷ rest) ≡ true

line_end-head : (text : List ℕ) → BeginsAtEnd (line_end text)
line_end-head [] = tt
line_end-head (c ∷ cs) = by_test (at_line_end (c ∷ cs)) refl (line_end-head cs)
  where
    by_test : (s : Bool) → at_line_end (c ∷ cs) ≡ s → BeginsAtEnd (line_end cs) → BeginsAtEnd (cond s (c ∷ cs) (line_end cs))
    by_test true e h = e
    by_test false e h = h

abbrev BeginsWord : List ℕ → Type 0
BeginsWord [] = Unit {0}
BeginsWord (c ∷ rest) = at_line_end (c ∷ rest) ≡ false → ends_word false (c ∷ rest) ≡ false

at_end-word : (text : List ℕ) → BeginsAtEnd text → BeginsWord text
at_end-word [] h = tt
at_end-word (c ∷ cs) h = λ e. absurd (cc)

comment-head : (text : List ℕ) → BeginsNoBlank text → BeginsWord (without_comment text)
comment-head [] h = tt
comment-head (c ∷ cs) h = by_test (c == 59) refl
  where
    tests : (p q s : Bool) → p ≡ false → q ≡ false → s ≡ false → (((p || q) || s) || false) ≡ false
    tests p q s a b d = rw (a, b, d) refl

    by_test : (s : Bool) → (c == 59) ≡ s → BeginsWord (cond s (line_end cs) (c ∷ cs))
    by_test true e = at_end-word (line_end cs) (line_end-head cs)
    by_test false e = λ none. tests (is_blank c) (c == 59) (at_line_end (c ∷ cs)) h e none

-- What stands behind a token of a line.
behind_end-shorter : (c : ℕ) (rest : List ℕ) → length (behind_line_end (c ∷ rest)) < suc (length rest)
behind_end-shorter c [] = omega arith
behind_end-shorter c (d ∷ rest) = by_test (c == 10)
  where
    by_test : (s : Bool) → length (cond s (d ∷ rest) rest) < suc (suc (length rest))
    by_test true = omega arith
    by_test false = omega arith

lexeme-left : (x : Result Lexeme LexerError) (behind : List ℕ) → given_left (lexeme_given x behind) ≤ length behind
lexeme-left (Ok l) behind = omega arith
lexeme-left (Err e) behind = omega arith

bare_given-left : (r : WordResult) → given_left (bare_given r) ≤ left r
bare_given-left (Ok found) = lexeme-left (bare_lexeme found.0) found.1
bare_given-left (Err e) = omega arith

string_given-left : (r : WordResult) → given_left (string_given r) ≡ left r
string_given-left (Ok found) = refl
string_given-left (Err e) = refl

list_given-left : (r : Words) → given_left (list_given r) ≡ words_left r
list_given-left (Ok found) = refl
list_given-left (Err e) = refl

word-shorter : (c : ℕ) (rest : List ℕ) (given : Given) → ends_word false (c ∷ rest) ≡ false → WordToken c rest given → given_left given < suc (length rest)
word-shorter c rest given goes h = by_tests (c == 40) (c == 34) h
  where
    by_tests : (s t : Bool) → MatchBool s (ListToken rest given) (MatchBool t (StringToken rest given) (BareToken (c ∷ rest) given)) → given_left given < suc (length rest)
    by_tests true t p = omega (arith, ap given_left p.2, list_given-left p.0, list-left rest p.0 p.1)
    by_tests false true p = omega (arith, ap given_left p.2, string_given-left p.0, string-left rest p.0 p.1)
    by_tests false false p = omega (arith, ap given_left p.2, bare_given-left p.0, plain-shorter false c rest p.0 goes p.1)

line-shorter : (front : Bool) (text : List ℕ) (lexeme : Lexeme) (after : Unread) → BeginsWord text → LineToken front text (Ok (Some lexeme, after)) → length after.text < length text
line-shorter front [] lexeme after solid h = let none : Some lexeme ≡ None = ap first h in absurd (cc)
line-shorter front (c ∷ rest) lexeme after solid h = by_test (at_line_end (c ∷ rest)) refl h
  where
    by_test : (s : Bool) → at_line_end (c ∷ rest) ≡ s → MatchBool s (token_then lexeme after ≡ token_then end_of_line (unread true (behind_line_end (c ∷ rest)))) (WordToken c rest (Ok (Some lexeme, after))) → length after.text < suc (length rest)
    by_test true e p = omega (arith, ap given_left p, behind_end-shorter c rest)
    by_test false e p = word-shorter c rest (Ok (Some lexeme, after)) (solid e) p

and-second : (a b : Bool) → (a && b) ≡ true → b ≡ true
and-second true b e = e
and-second false b e = absurd (cc)

-- Behind a token less is left.
pub token-shorter : (u after : Unread) (lexeme : Lexeme) → IsToken u (Ok (Some lexeme, after)) → length after.text < length u.text
token-shorter u after lexeme h = by_test (u.front && begins_blank u.text) refl h
  where
    by_test : (s : Bool) → (u.front && begins_blank u.text) ≡ s → MatchBool s (token_then lexeme after ≡ token_then blank (unread false (without_blanks u.text))) (LineToken u.front (without_comment (without_blanks u.text)) (Ok (Some lexeme, after))) → length after.text < length u.text
    by_test true e p = omega (arith, ap given_left p, blank-shorter u.text (and-second u.front (begins_blank u.text) e))
    by_test false e p =
        omega (
          arith,
          comment-left (without_blanks u.text),
          blanks-left u.text,
          line-shorter u.front (without_comment (without_blanks u.text)) lexeme after (comment-head (without_blanks u.text) (blanks-head u.text)) p,
        )
