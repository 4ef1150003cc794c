use Rattle.zst_denial.proofs.Secured.{unowned_lacked}
use Rattle.zst_denial.proofs.laws.unowned_types_are_lacked.Goals as goal

pub returns : goal.returns
returns c = unowned_lacked
