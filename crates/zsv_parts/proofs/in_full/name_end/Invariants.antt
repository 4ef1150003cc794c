use Rattle.std.proofs.Common.{◌-◌}
use Rattle.zsv_parts.proofs.NamesInFull.{Walked}
use Rattle.zsv_parts.proofs.in_full.name_end.Given as goal

abbrev pub invariant-labels : goal.invariant-labels
invariant-labels l = Walked l.octets l.start l.end

abbrev pub decreases-labels : goal.decreases-labels
decreases-labels l = l.most - l.end
