use Rattle.std.proofs.Common.{length}
use Rattle.dnw_label.specs.Labels.{SpeltSoFar}
use Rattle.dnw_label.proofs.labels.push_many_lengths.Given as goal

abbrev pub invariant-labels : goal.invariant-labels
invariant-labels l = SpeltSoFar l.initial.lengths.items l.spelled l.rest l.lengths.items

abbrev pub decreases-labels : goal.decreases-labels
decreases-labels l = length l.rest
