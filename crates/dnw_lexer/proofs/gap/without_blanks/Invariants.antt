use Rattle.std.proofs.Common.{◌≡◌, length}
use Rattle.std.specs.Prelude.{chars, IsUtf8}
use Rattle.dnw_lexer.specs.Lexer.{without_blanks}
use Rattle.dnw_lexer.proofs.gap.without_blanks.Given as goal

abbrev pub invariant-blanks : goal.invariant-blanks
invariant-blanks l = IsUtf8 l.rest × (without_blanks (chars l.rest) ≡ without_blanks (chars l.text))

abbrev pub decreases-blanks : goal.decreases-blanks
decreases-blanks l = length (chars l.rest)
