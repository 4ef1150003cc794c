use Rattle.std.proofs.Common.{◌≡◌, ◌+◌, ◌*◌, ◌++◌, drop}
use Rattle.dnw_wire.specs.BitMaps.{map_types}
use Rattle.dnw_wire.proofs.bits.push_map.Given as goal

abbrev pub invariant-octets : goal.invariant-octets
invariant-octets l =
    l.codes.items ++ map_types (256 * l.number + 8 * l.i) (drop l.i l.map) ≡ l.initial.codes.items ++ map_types (256 * l.number) l.map
