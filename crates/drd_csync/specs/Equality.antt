-- When the data of CSYNC records are equal.
use Rattle.std.specs.Prelude.{ℕ, ◌==◌, ◌&&◌, nat_eq, Bool, List}
use Rattle.std.specs.Cmp.Lexicographic.{pointwise}
use Rattle.dnw_wire.specs.BitMaps.{AreTightMaps}
use Rattle.drd_csync.specs.declared.csync.CSYNC.{CSYNC}
use Rattle.drd_csync.specs.Data.{csync_flags}

-- The serial numbers, the flags and the types are the same.
abbrev pub csync_eq : CSYNC → CSYNC → Bool
csync_eq a b =
    a.soa_serial == b.soa_serial
    && (csync_flags a == csync_flags b && pointwise nat_eq a.type_bit_maps b.type_bit_maps)

-- The bit maps of the types as they are written: octets, none of which is zero at a window's end.
abbrev pub AreWrittenMaps : CSYNC → List ℕ → Type 0
AreWrittenMaps csync octets = AreTightMaps octets csync.type_bit_maps
