-- The OPT record as it is written (RFC 6891, sections 6.1.2 and 6.1.3).
use Rattle.std.specs.Prelude.{◌≡◌, ℕ, ◌<◌, ◌≤◌, ◌^◌, List, [], ◌∷◌, ◌++◌, length}
use Rattle.std.proofs.Common.{◌⊎◌}
use Rattle.dnw_codes.specs.RecordType.{record_type_number}
use Rattle.dnw_codes.specs.declared.error.ProtoError.{ProtoError}
use Rattle.dnw_codes.specs.declared.error.ProtoError.TheVariants.{Message}
use Rattle.dnw_codes.specs.declared.record_type.RecordType.TheVariants as kind
use Rattle.drd_types.specs.dnw_decoder.Octets.{octets_16, octets_32}
use Rattle.drd_types.specs.dnw_encoder.Effects.{WritesOctets, IsRefusal}
use Rattle.drd_types.specs.dnw_encoder.State.{State}
use Rattle.drd_types.specs.drd_opt.Entries.{entries_octets}
use Rattle.drd_types.specs.drd_opt.Reading.{HoldsEntries}
use Rattle.zst_edns.specs.Edns.{IsEdnsOf, edns_ttl}
use Rattle.zst_edns.specs.declared.edns.Edns.{Edns}

-- The octets of the options, one behind the other.
abbrev pub edns_data : Edns → List ℕ
edns_data edns = entries_octets edns.options.options.items

-- What stands before the options: the root as owner, the type, the payload as class, the TTL, and
-- how many octets the options take.
abbrev pub opt_head : Edns → ℕ → List ℕ
opt_head edns len =
    0 ∷ (octets_16 (record_type_number kind.OPT) ++ (octets_16 edns.max_payload
    ++ (octets_32 (edns_ttl edns) ++ octets_16 len)))

-- The octets of the record.
abbrev pub opt_octets : Edns → List ℕ
opt_octets edns = opt_head edns (length (edns_data edns)) ++ edns_data edns

-- The fields fit their places in the record: they are read of them again, where the flags have no
-- sixteenth bit beside DO.
pub record FitsFields (edns : Edns) : Type 0 where
  pub payload : edns.max_payload < 2 ^ 16
  pub ttl : edns_ttl edns < 2 ^ 32
  pub back : edns.flags.z < 2 ^ 15 → IsEdnsOf edns.max_payload (edns_ttl edns) edns

-- The record was written, in whatever mode the encoder is, and within the maximum.
pub record EmitsEdns (edns : Edns) (old new : State) : Type 0 where
  pub octets : WritesOctets (opt_octets edns) old new
  pub fits : new.offset ≤ old.maximum
  pub fields : FitsFields edns
  pub counted : length (edns_data edns) < 2 ^ 16

-- The options take more octets than 16 bits count.
abbrev pub HasLongOptions : Edns → ProtoError → Type 0
HasLongOptions edns (Message words) = 2 ^ 16 ≤ length (edns_data edns)
HasLongOptions edns other = ⊥

-- It was refused: it would pass the maximum, memory was wanted, or the options are too long.
abbrev pub RefusesEdns : Edns → State → ProtoError → Type 0
RefusesEdns edns old e = IsRefusal old (length (opt_octets edns)) e ⊎ HasLongOptions edns e

-- What is written of it is read as itself: the flags have no sixteenth bit beside DO, there are no
-- options or they are those that their octets hold, and 16 bits count these.
pub record EdnsReadsBack (edns : Edns) : Type 0 where
  pub flags : edns.flags.z < 2 ^ 15
  pub options : (edns.options.options.items ≡ [])
      ⊎ HoldsEntries (edns_data edns) edns.options.options.items
  pub counted : length (edns_data edns) < 2 ^ 16
