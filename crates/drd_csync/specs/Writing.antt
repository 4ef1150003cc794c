-- The data of a CSYNC record as an encoder writes them.
use Rattle.std.specs.Prelude.{ℕ, ◌+◌, ◌≤◌, List, length}
use Rattle.std.proofs.Common.{◌⊎◌}
use Rattle.dnw_wire.specs.dnw_codes.declared.error.ProtoError.{ProtoError}
use Rattle.dnw_wire.specs.dnw_encoder.Effects.{Sound, StaysTrue, WritesOctets, IsRefusal}
use Rattle.dnw_wire.specs.dnw_encoder.State.{State}
use Rattle.dnw_wire.specs.BitMaps.{BitMaps, IsTightMap, AreOctets, AreTightMaps}
use Rattle.drd_fields.specs.Writing.{fields_octets}
use Rattle.drd_csync.specs.declared.csync.CSYNC.{CSYNC}
use Rattle.drd_csync.specs.Data.{csync_fields, CsyncAt}

-- The data were written, within the maximum: serial number, flags, and bit maps without zero octets
-- at a window's end. They read back at their place, in the finished message too.
pub record EmitsCsync (csync : CSYNC) (old new : State) : Type 0 where
  pub octets : List ℕ
  pub maps : BitMaps IsTightMap 0 octets csync.type_bit_maps
  pub small : AreOctets octets
  pub puts : WritesOctets (fields_octets (csync_fields csync octets)) old new
  pub stays : Sound old
      → StaysTrue new new.offset (λ message. CsyncAt message old.offset csync new.offset)
  pub fits : new.offset ≤ old.maximum

-- They were refused: the six octets of serial number and flags would pass the maximum, or those and
-- the bit maps, or a growth was refused.
abbrev pub RefusesEmitCsync : CSYNC → State → ProtoError → Type 0
RefusesEmitCsync csync old e =
    IsRefusal old 6 e
    ⊎ ((octets : List ℕ) × AreTightMaps octets csync.type_bit_maps
    × IsRefusal old (6 + length octets) e)
