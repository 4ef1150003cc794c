use Rattle.std.proofs.Common.{take}
use Rattle.zsv_sqlite.specs.Groups.{Gathers}
use Rattle.zsv_sqlite.proofs.groups.gathered.Given as goal

abbrev pub invariant-loop-asked : goal.invariant-loop-asked
invariant-loop-asked l = Gathers (take l.asked-index l.prerequisites) l.groups
