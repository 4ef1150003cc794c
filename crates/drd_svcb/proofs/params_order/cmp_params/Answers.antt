use Rattle.drd_svcb.proofs.Orders.{params-order}
use Rattle.drd_svcb.proofs.params_order.cmp_params.Goals as goal

pub returns-clause-canonical : goal.returns-clause-canonical
returns-clause-canonical c = λ are others. params-order c.args.params.now c.args.others.now c.cmp_lists.result c.cmp_lists.ensures are others
