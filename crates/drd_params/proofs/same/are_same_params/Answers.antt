use Rattle.drd_params.proofs.Canonical.{params-tell}
use Rattle.drd_params.proofs.same.are_same_params.Goals as goal

pub returns-clause-canonical : goal.returns-clause-canonical
returns-clause-canonical c = λ are others. params-tell c.are_equal.result c.args.params.now c.args.others.now c.are_equal.ensures are others
