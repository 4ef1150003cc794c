use Rattle.std.proofs.Common.{length}
use Rattle.dnw_lexer.proofs.Numbers.{TtlSoFar}
use Rattle.dnw_lexer.proofs.ttl.ttl_seconds.Given as goal

abbrev pub invariant-groups : goal.invariant-groups
invariant-groups l = TtlSoFar l.text l.seconds l.rest

abbrev pub decreases-groups : goal.decreases-groups
decreases-groups l = length l.rest
