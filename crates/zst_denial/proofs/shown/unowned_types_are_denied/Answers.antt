use Rattle.zst_denial.proofs.ShownSets.{unowned_denied}
use Rattle.zst_denial.proofs.shown.unowned_types_are_denied.Goals as goal

pub returns : goal.returns
returns c = unowned_denied
