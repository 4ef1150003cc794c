use Rattle.zst_denial.proofs.KeptCircles.{secured_still}
use Rattle.zst_denial.proofs.laws.unchanged_circles_secure.Goals as goal

pub returns : goal.returns
returns c = secured_still
