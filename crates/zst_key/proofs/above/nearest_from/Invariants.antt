use Rattle.std.proofs.Common.{length}
use Rattle.std.specs.BTreeMap.{get}
use Rattle.dnw_name.specs.DomainName.{name_cmp}
use Rattle.zst_key.proofs.NamesAbove.{HasPassed}
use Rattle.zst_key.proofs.above.nearest_from.Given as goal

abbrev pub invariant-levels : goal.invariant-levels
invariant-levels g l = HasPassed (get name_cmp l.names) l.fn.from l.above

abbrev pub decreases-levels : goal.decreases-levels
decreases-levels g l = length l.above.labels
