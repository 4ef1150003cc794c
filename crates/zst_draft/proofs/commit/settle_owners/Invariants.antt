use Rattle.std.proofs.Common.{length}
use Rattle.zst_draft.proofs.Settled.{Remains}
use Rattle.zst_draft.proofs.commit.settle_owners.Given as goal

abbrev pub invariant-owners : goal.invariant-owners
invariant-owners l = Remains l.initial.zone l.zone l.fn.owners.items l.left.items

abbrev pub decreases-owners : goal.decreases-owners
decreases-owners l = length l.left.items
