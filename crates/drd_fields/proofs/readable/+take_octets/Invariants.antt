use Rattle.std.proofs.Common.{length}
use Rattle.drd_fields.proofs.readable.+take_octets.Given as goal

abbrev pub decreases-take_octets : goal.decreases-take_octets
decreases-take_octets l = length l.fields.now
