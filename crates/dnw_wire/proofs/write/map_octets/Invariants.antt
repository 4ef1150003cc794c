use Rattle.std.proofs.Common.{length}
use Rattle.dnw_wire.proofs.Windows.{Writing}
use Rattle.dnw_wire.proofs.write.map_octets.Given as goal

abbrev pub invariant-windows : goal.invariant-windows
invariant-windows l = Writing l.octets.items l.codes l.rest

abbrev pub decreases-windows : goal.decreases-windows
decreases-windows l = length l.rest
