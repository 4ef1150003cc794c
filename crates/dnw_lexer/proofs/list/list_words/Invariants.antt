use Rattle.std.proofs.Common.{length, map}
use Rattle.std.specs.Prelude.{chars, IsUtf8}
use Rattle.std.specs.String.{string_bytes}
use Rattle.dnw_lexer.proofs.Lists.{ListSoFar}
use Rattle.dnw_lexer.proofs.list.list_words.Given as goal

abbrev pub invariant-words : goal.invariant-words
invariant-words l = IsUtf8 l.rest × ListSoFar (chars l.text) (map string_bytes l.words.items) (chars l.rest)

abbrev pub decreases-words : goal.decreases-words
decreases-words l = length (chars l.rest)
