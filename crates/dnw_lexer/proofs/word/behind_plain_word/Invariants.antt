use Rattle.std.proofs.Common.{List, ℕ, length}
use Rattle.std.specs.Prelude.{chars, IsUtf8}
use Rattle.dnw_lexer.specs.Lexer.{PlainText}
use Rattle.dnw_lexer.proofs.Words.{SoFar}
use Rattle.dnw_lexer.proofs.word.behind_plain_word.Given as goal

abbrev pub invariant-characters : goal.invariant-characters
invariant-characters l = IsUtf8 l.rest × ((octets : List ℕ) × SoFar (PlainText l.inside) (chars l.text) octets (chars l.rest))

abbrev pub decreases-characters : goal.decreases-characters
decreases-characters l = length (chars l.rest)
