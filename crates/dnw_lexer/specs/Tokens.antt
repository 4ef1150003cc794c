-- Which lexeme a token is.
use Rattle.std.specs.Prelude.{ℕ, ◌≡◌, List, Option, Some, None, map}
use Rattle.std.specs.Str.{encode_utf8_all}
use Rattle.std.specs.String.{string_bytes}
use Rattle.dnw_lexer.specs.declared.token.Token.{Token}
use Rattle.dnw_lexer.specs.declared.token.Token.TheVariants.{Blank, CharData, At, Include, Origin, Ttl, EOL}
use Rattle.dnw_lexer.specs.declared.token.Token.TheVariants.{List as WordList}
use Rattle.dnw_lexer.specs.Lexer.{Lexeme, blank, end_of_line, at_sign, include, origin, ttl, word, list}

-- A word's text has its characters in UTF-8.
abbrev pub IsLexeme : Token → Lexeme → Type 0
IsLexeme Blank lexeme = lexeme ≡ blank
IsLexeme (WordList words) lexeme =
    (ws : List (List ℕ)) × (map string_bytes words.items ≡ map encode_utf8_all ws)
    × (lexeme ≡ list ws)
IsLexeme (CharData text) lexeme =
    (w : List ℕ) × (string_bytes text ≡ encode_utf8_all w) × (lexeme ≡ word w)
IsLexeme At lexeme = lexeme ≡ at_sign
IsLexeme Include lexeme = lexeme ≡ include
IsLexeme Origin lexeme = lexeme ≡ origin
IsLexeme Ttl lexeme = lexeme ≡ ttl
IsLexeme EOL lexeme = lexeme ≡ end_of_line

abbrev pub AreLexemes : Option Token → Option Lexeme → Type 0
AreLexemes None lexeme = lexeme ≡ None
AreLexemes (Some token) lexeme = (l : Lexeme) × IsLexeme token l × (lexeme ≡ Some l)
