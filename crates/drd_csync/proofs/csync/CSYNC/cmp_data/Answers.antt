use Rattle.std.proofs.Common.{◌∙◌}
use Rattle.drd_csync.specs.OrderLaws.{csync_order}
use Rattle.drd_csync.proofs.csync.CSYNC.cmp_data.Goals as goal

pub returns-clause-canonical : goal.returns-clause-canonical
returns-clause-canonical c = λ xs ys written also.
    c.cmp_parts.ensures.value ∙ csync_order c.args.self.now c.args.other.now c.cmp_parts.ensures.small.0 c.cmp_parts.ensures.small.1 xs ys written also
