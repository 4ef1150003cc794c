use Rattle.std.proofs.Common.{◌+◌, ◌-◌}
use Rattle.dnw_wire.proofs.Windows.{Filling}
use Rattle.dnw_wire.proofs.write.window_of.Given as goal

abbrev pub invariant-octets : goal.invariant-octets
invariant-octets l = Filling l.base (l.base + 256) l.codes l.map.items l.rest l.at

abbrev pub decreases-octets : goal.decreases-octets
decreases-octets l = l.base + 256 - l.at
