use Rattle.zst_denial.proofs.ShownSets.{absent_denied}
use Rattle.zst_denial.proofs.shown.absent_names_are_denied.Goals as goal

pub returns : goal.returns
returns c = absent_denied
