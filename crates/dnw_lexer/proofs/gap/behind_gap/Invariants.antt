use Rattle.std.proofs.Common.{◌≡◌, length, false}
use Rattle.std.specs.Prelude.{chars, IsUtf8}
use Rattle.dnw_lexer.specs.Lexer.{after_gap}
use Rattle.dnw_lexer.proofs.gap.behind_gap.Given as goal

abbrev pub invariant-characters : goal.invariant-characters
invariant-characters l = IsUtf8 l.rest × (after_gap l.comment (chars l.rest) ≡ after_gap false (chars l.text))

abbrev pub decreases-characters : goal.decreases-characters
decreases-characters l = length (chars l.rest)
