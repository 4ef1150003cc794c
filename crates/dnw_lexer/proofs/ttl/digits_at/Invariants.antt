use Rattle.std.proofs.Common.{length}
use Rattle.dnw_lexer.proofs.Numbers.{DigitsSoFar}
use Rattle.dnw_lexer.proofs.ttl.digits_at.Given as goal

abbrev pub invariant-digits : goal.invariant-digits
invariant-digits l = DigitsSoFar l.text l.value l.rest

abbrev pub decreases-digits : goal.decreases-digits
decreases-digits l = length l.rest
