-- The words of zone files and of record data in text (RFC 1035 5.1), over the characters of a text.
-- What differs from RFC 1035: an escape in quotes has three octal digits, and stands for an ASCII
-- character. Outside quotes a backslash stays in the word with the character behind it, since what
-- it means depends on the word (a name, a string). A parenthesis begins a word, which is the list
-- of the words up to the closing one.
use Rattle.std.specs.Prelude.{ℕ, ◌≡◌, ◌≢◌, ◌==◌, ◌&&◌, ◌||◌, ◌++◌, nat_lt, nat_eq, not, Bool, true, false, List, [], ◌∷◌, Option, Some, None, Result, Ok, Err, if◌then◌else◌, MatchBool}
use Rattle.std.specs.List.{starts_with}
use lib.Chars.{codes}
use Rattle.std.specs.Str.{bytes_eq, encode_utf8_all}
use Rattle.dnw_codes.specs.Ascii.{backslash, carriage_return, close_parenthesis, double_quote, line_feed, open_parenthesis, semicolon, is_blank, is_octal, octal_value}
use Rattle.dnw_codes.specs.declared.error.LexerError.{LexerError}
use Rattle.dnw_codes.specs.declared.error.LexerError.TheVariants.{EOF, UnrecognizedChar, UnrecognizedOctet, UnrecognizedDollar, UnclosedQuotedString, UnclosedList}

-- A line ends at LF, or at CR directly before LF.
abbrev pub at_line_end : List ℕ → Bool
at_line_end [] = false
at_line_end (c ∷ []) = c == line_feed
at_line_end (c ∷ d ∷ rest) = c == line_feed || (c == carriage_return && d == line_feed)

-- What stands behind a line's end.
abbrev pub behind_line_end : List ℕ → List ℕ
behind_line_end [] = []
behind_line_end (c ∷ []) = []
behind_line_end (c ∷ d ∷ rest) = if c == line_feed then d ∷ rest else rest

-- The text without the blanks at its front.
abbrev pub without_blanks : List ℕ → List ℕ
without_blanks [] = []
without_blanks (c ∷ cs) = if is_blank c then without_blanks cs else c ∷ cs

-- The text from its first line's end on.
abbrev pub line_end : List ℕ → List ℕ
line_end [] = []
line_end (c ∷ cs) = if at_line_end (c ∷ cs) then c ∷ cs else line_end cs

-- The text without the comment at its front, which runs from `;` to the line's end.
abbrev pub without_comment : List ℕ → List ℕ
without_comment [] = []
without_comment (c ∷ cs) = if c == semicolon then line_end cs else c ∷ cs

-- Characters that begin what is read, and the text behind; or why it can't be read.
abbrev pub WordResult : Type 0
WordResult = Result (List ℕ × List ℕ) LexerError

abbrev pub prepend : List ℕ → WordResult → WordResult
prepend front (Ok found) = Ok (front ++ found.0, found.1)
prepend front (Err e) = Err e

-- A word ends at a blank, a line's end and a comment, in a list at `)` too.
abbrev pub ends_word : Bool → List ℕ → Bool
ends_word inside [] = true
ends_word inside (c ∷ cs) =
    is_blank c || c == semicolon || at_line_end (c ∷ cs) || (inside && c == close_parenthesis)

-- A plain word, in a list or outside. `\` stays in it with the character behind it, whatever that
-- is.
pub data PlainText (inside : Bool) : List ℕ → WordResult → Type 0 where
  ends : (text : List ℕ) → ends_word inside text ≡ true → PlainText inside text (Ok ([], text))
  plain : (c : ℕ) (rest : List ℕ) (r : WordResult) → ends_word inside (c ∷ rest) ≡ false
      → c ≢ close_parenthesis
      → c ≢ backslash → PlainText inside rest r → PlainText inside (c ∷ rest) (prepend (c ∷ []) r)
  escaped : (c d : ℕ) (rest : List ℕ) (r : WordResult) → c ≡ backslash → PlainText inside rest r
      → PlainText inside (c ∷ d ∷ rest) (prepend (c ∷ d ∷ []) r)
  bracket : (c : ℕ) (rest : List ℕ) → ends_word inside (c ∷ rest) ≡ false → c ≡ close_parenthesis
      → PlainText inside (c ∷ rest) (Err (UnrecognizedChar c))
  cut : (c : ℕ) → c ≡ backslash → PlainText inside (c ∷ []) (Err EOF)

-- The number of the three octal digits that a text begins with, and the text behind them.
abbrev pub octal_at : List ℕ → Option (ℕ × List ℕ)
octal_at [] = None
octal_at (a ∷ []) = None
octal_at (a ∷ b ∷ []) = None
octal_at (a ∷ b ∷ c ∷ rest) =
    if is_octal a && is_octal b && is_octal c then Some (octal_value a b c, rest) else None

-- What a backslash in quotes stands for, and the text behind it: the ASCII character of three octal
-- digits, or the character behind the backslash.
abbrev pub octal_or : Option (ℕ × List ℕ) → ℕ → List ℕ → Result (ℕ × List ℕ) LexerError
octal_or None a rest = Ok (a, rest)
octal_or (Some found) a rest =
    if nat_lt found.0 128 then Ok found else Err (UnrecognizedOctet found.0)

abbrev pub escape : List ℕ → Result (ℕ × List ℕ) LexerError
escape [] = Err EOF
escape (a ∷ rest) = octal_or (octal_at (a ∷ rest)) a rest

-- A string in quotes, from behind the opening quote on. It runs over blanks and line ends to the
-- next plain quote.
pub data StringText : List ℕ → WordResult → Type 0 where
  closes : (c : ℕ) (rest : List ℕ) → c ≡ double_quote → StringText (c ∷ rest) (Ok ([], rest))
  plain : (c : ℕ) (rest : List ℕ) (r : WordResult) → c ≢ double_quote → c ≢ backslash
      → StringText rest r
      → StringText (c ∷ rest) (prepend (c ∷ []) r)
  escaped : (c d : ℕ) (rest behind : List ℕ) (r : WordResult) → c ≡ backslash
      → escape rest ≡ Ok (d, behind)
      → StringText behind r → StringText (c ∷ rest) (prepend (d ∷ []) r)
  no_escape : (c : ℕ) (rest : List ℕ) (e : LexerError) → c ≡ backslash → escape rest ≡ Err e
      → StringText (c ∷ rest) (Err e)
  unclosed : StringText [] (Err UnclosedQuotedString)

-- The text without the blanks, comments and line ends at its front; in a comment everything to the
-- line's end.
abbrev pub after_gap : Bool → List ℕ → List ℕ
after_gap comment [] = []
after_gap true (c ∷ cs) = after_gap (not (c == line_feed)) cs
after_gap false (c ∷ cs) =
    if is_blank c
    || at_line_end (c ∷ cs) then after_gap false cs else
    (if c == semicolon then after_gap true cs else c ∷ cs)

-- Words of a list, and the text behind it.
abbrev pub Words : Type 0
Words = Result (List (List ℕ) × List ℕ) LexerError

abbrev pub words_before : List (List ℕ) → Words → Words
words_before front (Ok found) = Ok (front ++ found.0, found.1)
words_before front (Err e) = Err e

-- A word of a list: a string in quotes, or a plain word. A list has no list in it.
abbrev pub ListWord : ℕ → List ℕ → WordResult → Type 0
ListWord c rest r =
    MatchBool (c == double_quote) (StringText rest r)
    (MatchBool (c == open_parenthesis) (r ≡ Err (UnrecognizedChar c)) (PlainText true (c ∷ rest) r))

-- A list, from behind `(` on. Its words stand between blanks, comments and line ends.
pub data ListText : List ℕ → Words → Type 0 where
  closes : (text : List ℕ) (c : ℕ) (rest : List ℕ) → after_gap false text ≡ c ∷ rest
      → c ≡ close_parenthesis
      → ListText text (Ok ([], rest))
  word : (text : List ℕ) (c : ℕ) (rest word behind : List ℕ) (r : Words)
      → after_gap false text ≡ c ∷ rest
      → c ≢ close_parenthesis → ListWord c rest (Ok (word, behind)) → ListText behind r
      → ListText text (words_before (word ∷ []) r)
  refused : (text : List ℕ) (c : ℕ) (rest : List ℕ) (e : LexerError)
      → after_gap false text ≡ c ∷ rest
      → c ≢ close_parenthesis → ListWord c rest (Err e) → ListText text (Err e)
  unclosed : (text : List ℕ) → after_gap false text ≡ [] → ListText text (Err UnclosedList)

-- What a token means.
pub data Lexeme : Type 0 where
  blank : Lexeme
  end_of_line : Lexeme
  at_sign : Lexeme
  include : Lexeme
  origin : Lexeme
  ttl : Lexeme
  word : List ℕ → Lexeme
  list : List (List ℕ) → Lexeme

-- A text that is left, and whether it begins a line.
pub record Unread : Type 0 where
  pub front : Bool
  pub text : List ℕ

abbrev pub unread : Bool → List ℕ → Unread
unread front text = record { front = front; text = text }

-- A token, or none at the text's end, and what is left.
abbrev pub Given : Type 0
Given = Result (Option Lexeme × Unread) LexerError

-- A plain word: `@` alone, a directive behind `$`, or itself.
abbrev pub bare_lexeme : List ℕ → Result Lexeme LexerError
bare_lexeme w =
    let octets = encode_utf8_all w in
    if bytes_eq octets (codes "@") then Ok at_sign
    else (if bytes_eq octets (codes "$INCLUDE") then Ok include
    else (if bytes_eq octets (codes "$ORIGIN") then Ok origin
    else (if bytes_eq octets (codes "$TTL") then Ok ttl
    else (if starts_with nat_eq octets (codes "$") then Err UnrecognizedDollar else Ok (word w)))))

-- What a word in its line gives.
abbrev pub lexeme_given : Result Lexeme LexerError → List ℕ → Given
lexeme_given (Ok lexeme) behind = Ok (Some lexeme, unread false behind)
lexeme_given (Err e) behind = Err e

abbrev pub bare_given : WordResult → Given
bare_given (Ok found) = lexeme_given (bare_lexeme found.0) found.1
bare_given (Err e) = Err e

abbrev pub string_given : WordResult → Given
string_given (Ok found) = Ok (Some (word found.0), unread false found.1)
string_given (Err e) = Err e

abbrev pub list_given : Words → Given
list_given (Ok found) = Ok (Some (list found.0), unread false found.1)
list_given (Err e) = Err e

abbrev pub ListToken : List ℕ → Given → Type 0
ListToken text given = (r : Words) × ListText text r × (given ≡ list_given r)

abbrev pub StringToken : List ℕ → Given → Type 0
StringToken text given = (r : WordResult) × StringText text r × (given ≡ string_given r)

abbrev pub BareToken : List ℕ → Given → Type 0
BareToken text given = (r : WordResult) × PlainText false text r × (given ≡ bare_given r)

-- A list, a string in quotes or a plain word, by its first character.
abbrev pub WordToken : ℕ → List ℕ → Given → Type 0
WordToken c rest given =
    MatchBool (c == open_parenthesis) (ListToken rest given)
    (MatchBool (c == double_quote) (StringToken rest given) (BareToken (c ∷ rest) given))

-- What stands in a line behind its blanks and its comment.
abbrev pub LineToken : Bool → List ℕ → Given → Type 0
LineToken front [] given = given ≡ Ok (None, unread front [])
LineToken front (c ∷ rest) given =
    MatchBool (at_line_end (c ∷ rest))
    (given ≡ Ok (Some end_of_line, unread true (behind_line_end (c ∷ rest))))
    (WordToken c rest given)

abbrev pub begins_blank : List ℕ → Bool
begins_blank [] = false
begins_blank (c ∷ cs) = is_blank c

-- Blanks at a line's front are a token; elsewhere they stand between words.
abbrev pub IsToken : Unread → Given → Type 0
IsToken left given =
    MatchBool (left.front && begins_blank left.text)
    (given ≡ Ok (Some blank, unread false (without_blanks left.text)))
    (LineToken left.front (without_comment (without_blanks left.text)) given)
