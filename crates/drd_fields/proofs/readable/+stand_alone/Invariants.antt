use Rattle.std.proofs.Common.{length}
use Rattle.drd_fields.proofs.readable.+stand_alone.Given as goal

abbrev pub decreases-stand_alone : goal.decreases-stand_alone
decreases-stand_alone l = length l.fields.now
