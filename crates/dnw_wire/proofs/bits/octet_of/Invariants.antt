use Rattle.std.proofs.Common.{◌≡◌, ◌+◌, ◌^◌, ◌<◌, ◌++◌}
use Rattle.dnw_wire.specs.BitMaps.{bits_types, Rises}
use Rattle.dnw_wire.proofs.bits.octet_of.Given as goal

abbrev pub invariant-bits : goal.invariant-bits
invariant-bits l = record {
  types : l.initial.rest ≡ bits_types l.base l.bit l.octet ++ l.rest;
  rises : Rises (l.base + l.bit) l.rest 65536;
  small : l.octet < 2 ^ l.bit;
}
