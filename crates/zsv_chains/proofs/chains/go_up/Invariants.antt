use Rattle.std.proofs.Common.{◌≡◌, length}
use Rattle.zsv_chains.specs.Chains.{IsSelfOrAncestor}
use Rattle.zsv_chains.proofs.chains.go_up.Given as goal

abbrev pub invariant-levels : goal.invariant-levels
invariant-levels l = IsSelfOrAncestor l.key l.ancestor × (l.labels ≡ length l.key.labels)

abbrev pub decreases-levels : goal.decreases-levels
decreases-levels l = l.labels
