use Rattle.std.proofs.Common.{length}
use Rattle.drd_svcb.proofs.Rising.{Left}
use Rattle.drd_svcb.proofs.readable.are_params.Given as goal

abbrev pub invariant-params : goal.invariant-params
invariant-params l = Left l.initial.rest l.least l.rest

abbrev pub decreases-params : goal.decreases-params
decreases-params l = length l.rest
