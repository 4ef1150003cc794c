use Rattle.std.proofs.Common.{length}
use Rattle.zst_map.proofs.Preceded.{Passed}
use Rattle.zst_map.proofs.denials.last_owned.Given as goal

abbrev pub invariant-names : goal.invariant-names
invariant-names l = Passed l.sets l.record_type l.fn.names l.left

abbrev pub decreases-names : goal.decreases-names
decreases-names l = length l.left
