use Rattle.zst_denial.proofs.Secured.{owned_not_lacked}
use Rattle.zst_denial.proofs.laws.owned_types_are_not_lacked.Goals as goal

pub returns : goal.returns
returns c = owned_not_lacked
