use Rattle.std.proofs.Common.{◌≡◌, ◌-◌, ◌/◌, ◌^◌, ◌++◌}
use Rattle.dnw_wire.specs.BitMaps.{bits_types}
use Rattle.dnw_wire.proofs.bits.push_octet.Given as goal

abbrev pub invariant-bits : goal.invariant-bits
invariant-bits l = l.codes.items ≡ l.initial.codes.items ++ bits_types l.base l.bit (l.octet / 2 ^ (8 - l.bit))
