use Rattle.std.proofs.Common.{true, length, map}
use Rattle.std.specs.Prelude.{chars}
use Rattle.std.specs.String.{string_bytes}
use Rattle.dnw_lexer.specs.Lexer.{unread}
use Rattle.drd_words.proofs.TextLemmas.{SoFar}
use Rattle.drd_words.proofs.text.words_of_text.Given as goal

abbrev pub invariant-tokens : goal.invariant-tokens
invariant-tokens l = SoFar (unread true (chars l.text)) (map string_bytes l.words.items) l.lexer

abbrev pub decreases-tokens : goal.decreases-tokens
decreases-tokens l = length l.lexer.text
