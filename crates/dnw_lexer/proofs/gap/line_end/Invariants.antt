use Rattle.std.proofs.Common.{◌≡◌, length}
use Rattle.std.specs.Prelude.{chars, IsUtf8}
use Rattle.dnw_lexer.specs.Lexer.{line_end}
use Rattle.dnw_lexer.proofs.gap.line_end.Given as goal

abbrev pub invariant-characters : goal.invariant-characters
invariant-characters l = IsUtf8 l.rest × (line_end (chars l.rest) ≡ line_end (chars l.text))

abbrev pub decreases-characters : goal.decreases-characters
decreases-characters l = length (chars l.rest)
