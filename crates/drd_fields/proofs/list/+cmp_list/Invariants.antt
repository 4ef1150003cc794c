use Rattle.std.proofs.Common.{length}
use Rattle.drd_fields.proofs.list.+cmp_list.Given as goal

abbrev pub decreases-cmp_list : goal.decreases-cmp_list
decreases-cmp_list l = length l.xs.now
