-- The words of a text, by its tokens.
use Rattle.std.specs.Prelude.{ℕ, ◌≡◌, true, List, [], ◌∷◌, ◌++◌, map, Option, Some, None, Result, Ok, Err, chars}
use Rattle.std.specs.Str.{encode_utf8_all}
use Rattle.dnw_lexer.specs.dnw_codes.declared.error.LexerError.{LexerError}
use Rattle.dnw_lexer.specs.dnw_codes.declared.error.ParseError.{ParseError}
use Rattle.dnw_lexer.specs.dnw_codes.declared.error.ParseError.TheVariants.{Lexer, UnexpectedToken}
use Rattle.dnw_lexer.specs.Lexer.{Lexeme, blank, end_of_line, at_sign, include, origin, ttl, word, list, Unread, unread, IsToken}

-- The words that a token stands for: none for blanks and a line's end, those of a list. Other
-- tokens have no place among record data.
abbrev pub lexeme_words : Lexeme → Option (List (List ℕ))
lexeme_words blank = Some []
lexeme_words end_of_line = Some []
lexeme_words at_sign = None
lexeme_words include = None
lexeme_words origin = None
lexeme_words ttl = None
lexeme_words (word w) = Some (encode_utf8_all w ∷ [])
lexeme_words (list ws) = Some (map encode_utf8_all ws)

-- Words, or why there are none.
abbrev pub WordsResult : Type 0
WordsResult = Result (List (List ℕ)) ParseError

-- What is read behind these words.
abbrev pub words_after : List (List ℕ) → WordsResult → WordsResult
words_after words (Ok later) = Ok (words ++ later)
words_after words (Err e) = Err e

-- The words of what is left of a text, or its first token that has no place or can't be read.
pub data TextReading : Unread → WordsResult → Type 0 where
  ends : (left after : Unread) → IsToken left (Ok (None, after)) → TextReading left (Ok [])
  more : (left after : Unread) (lexeme : Lexeme) (words : List (List ℕ)) (r : WordsResult)
      → IsToken left (Ok (Some lexeme, after)) → lexeme_words lexeme ≡ Some words
      → TextReading after r → TextReading left (words_after words r)
  misplaced : (left after : Unread) (lexeme : Lexeme) → IsToken left (Ok (Some lexeme, after))
      → lexeme_words lexeme ≡ None → TextReading left (Err UnexpectedToken)
  unreadable : (left : Unread) (e : LexerError) → IsToken left (Err e)
      → TextReading left (Err (Lexer e))

-- The words of a text, each as its octets.
abbrev pub IsSplitInto : List ℕ → List (List ℕ) → Type 0
IsSplitInto text words = TextReading (unread true (chars text)) (Ok words)

-- Why a text has no words.
abbrev pub TextRefused : List ℕ → ParseError → Type 0
TextRefused text e = TextReading (unread true (chars text)) (Err e)
