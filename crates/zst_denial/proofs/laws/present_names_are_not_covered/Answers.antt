use Rattle.zst_denial.proofs.Secured.{present_not}
use Rattle.zst_denial.proofs.laws.present_names_are_not_covered.Goals as goal

pub returns : goal.returns
returns c = present_not
