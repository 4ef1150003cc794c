use Rattle.std.proofs.Common.{length}
use Rattle.drd_caa.proofs.Parameters.{Ahead}
use Rattle.drd_caa.proofs.issuer.each_parameter.Given as goal

abbrev pub invariant-parameters : goal.invariant-parameters
invariant-parameters l = Ahead l.octets l.parameters.items l.rest

abbrev pub decreases-parameters : goal.decreases-parameters
decreases-parameters l = length l.rest
