use Rattle.std.proofs.Common.{length}
use Rattle.dnw_wire.proofs.Windows.{TypesAhead}
use Rattle.dnw_wire.proofs.read.read_types.Given as goal

abbrev pub invariant-windows : goal.invariant-windows
invariant-windows l = TypesAhead l.octets l.codes.items l.rest l.above

abbrev pub decreases-windows : goal.decreases-windows
decreases-windows l = length l.rest
