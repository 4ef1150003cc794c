use Rattle.std.proofs.Common.{length}
use Rattle.zst_key.specs.Sorted.{entry_at}
use Rattle.zst_key.proofs.NamesAbove.{HasPassed}
use Rattle.zst_key.proofs.sorted.nearest_entry.Given as goal

abbrev pub invariant-levels : goal.invariant-levels
invariant-levels g l = HasPassed (entry_at l.entries) l.fn.key l.above

abbrev pub decreases-levels : goal.decreases-levels
decreases-levels g l = length l.above.labels
