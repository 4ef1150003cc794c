use Rattle.std.proofs.Common.{◌≤◌, length}
use Rattle.drd_params.proofs.ReadParams.{Read}
use Rattle.drd_params.proofs.params.read_params_until.Given as goal

abbrev pub invariant-params : goal.invariant-params
invariant-params l = record {
  read : Read l.initial.rest l.found.items l.least l.rest;
  small : l.least ≤ 65536;
}

abbrev pub decreases-params : goal.decreases-params
decreases-params l = length l.rest
