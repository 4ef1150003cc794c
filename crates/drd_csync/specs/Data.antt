-- The data of a CSYNC record (RFC 7477 2.1): which data of a child zone its parent is to copy.
use Rattle.std.specs.Prelude.{ℕ, ◌+◌, List, [], ◌∷◌, cond}
use Rattle.dnw_wire.specs.dnw_decoder.Octets.{Stands}
use Rattle.dnw_wire.specs.BitMaps.{BitMaps, IsMap}
use Rattle.drd_fields.specs.Fields.{Field, long, short, rest, Kind, a_long, a_short, FieldsAt}
use Rattle.drd_csync.specs.declared.csync.CSYNC.{CSYNC}

-- RFC 7477 2.1.1.2: immediate is the lowest bit, soaminimum the one above.
abbrev pub csync_flags : CSYNC → ℕ
csync_flags csync = cond csync.immediate 1 0 + cond csync.soa_minimum 2 0

-- The serial number and the flags stand first.
abbrev pub front_fields : ℕ → ℕ → List Field
front_fields serial flags = long serial ∷ short flags ∷ []

abbrev pub front_kinds : List Kind
front_kinds = a_long ∷ a_short ∷ []

-- Behind them the octets of the bit maps, up to the end of the data.
abbrev pub csync_fields : CSYNC → List ℕ → List Field
csync_fields csync maps = long csync.soa_serial ∷ short (csync_flags csync) ∷ rest maps ∷ []

-- Bit maps of these types stand at a place, up to the end of the data.
pub record MapsAt (message : List ℕ) (place : ℕ) (types : List ℕ) (end : ℕ) : Type 0 where
  pub octets : List ℕ
  pub maps : BitMaps IsMap 0 octets types
  pub there : Stands message place octets end

-- RFC 7477 2.1: the data stand at a place, up to their end: the serial number, the two flags and no
-- others, and the bit maps of the types.
pub record CsyncAt (message : List ℕ) (place : ℕ) (csync : CSYNC) (end : ℕ) : Type 0 where
  pub octets : List ℕ
  pub maps : BitMaps IsMap 0 octets csync.type_bit_maps
  pub there : FieldsAt message place (csync_fields csync octets) end
