-- The order of the data of CSYNC records (RFC 4034 6.3), and what of them is fed to a hasher.
use Rattle.std.specs.Prelude.{◌++◌}
use Rattle.std.specs.Hash as fed
use Rattle.std.specs.Hash.{HashWrites}
use Rattle.std.specs.Ordering.{nat_cmp, on, then_cmp}
use Rattle.std.specs.declared.cmp.Ordering.{Ordering}
use Rattle.dnw_wire.specs.MapOrder.{types_cmp}
use Rattle.drd_csync.specs.declared.csync.CSYNC.{CSYNC}
use Rattle.drd_csync.specs.Data.{csync_flags}

-- By the serial numbers, then the flags, then the types.
abbrev pub csync_cmp : CSYNC → CSYNC → Ordering
csync_cmp =
    then_cmp (on (λ csync. csync.soa_serial) nat_cmp)
    (then_cmp (on csync_flags nat_cmp) (on (λ csync. csync.type_bit_maps) types_cmp))

-- The same where serial numbers, flags and types are.
abbrev pub csync_input : CSYNC → HashWrites
csync_input csync =
    fed.u32 csync.soa_serial
    ++ (fed.u16 (csync_flags csync) ++ fed.slice fed.u16 csync.type_bit_maps)
