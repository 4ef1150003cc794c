use Rattle.std.specs.Prelude.{length}
use Rattle.zst_circle.proofs.Authoritative.{Climbed}
use Rattle.zst_circle.proofs.names.is_cut_off.Given as goal

abbrev pub invariant-levels : goal.invariant-levels
invariant-levels l = Climbed l.sets l.origin l.key l.above

abbrev pub decreases-levels : goal.decreases-levels
decreases-levels l = length l.above.labels
