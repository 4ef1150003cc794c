use Rattle.std.proofs.Common.{◌+◌, ◌≤◌, [], length, take}
use Rattle.dnw_label.specs.Labels.{SpeltSoFar}
use Rattle.dnw_label.proofs.labels.gather_lengths.Given as goal

abbrev pub invariant-labels : goal.invariant-labels
invariant-labels l = record {
  lengths : SpeltSoFar [] l.spelled l.rest (take l.count l.gathered);
  within : l.count ≤ length l.gathered;
  shorter : length l.rest + l.count ≤ length l.spelled;
}

abbrev pub decreases-labels : goal.decreases-labels
decreases-labels l = length l.rest
