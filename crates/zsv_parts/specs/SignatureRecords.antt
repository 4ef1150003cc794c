-- The record that signs a message, TSIG: RFC 8945, section 4.2.
use Rattle.std.specs.Prelude.{◌≡◌, true, ℕ, ◌+◌, ◌^◌, ◌<◌, ◌≤◌, List, ◌++◌, ◌⊎◌, length, codes}
use Rattle.dnw_codes.specs.DNSClass.{class_number, class_of}
use Rattle.dnw_codes.specs.RecordType.{record_type_number}
use Rattle.dnw_codes.specs.declared.error.ProtoError.{ProtoError}
use Rattle.dnw_codes.specs.declared.error.ProtoError.TheVariants.{Message}
use Rattle.dnw_codes.specs.declared.record_type.RecordType.TheVariants as kind
use Rattle.dnw_encoder.specs.dnw_name.DomainName.{name_octets}
use Rattle.dnw_encoder.specs.dnw_decoder.Codes.{ClassAt, RecordTypeAt}
use Rattle.dnw_encoder.specs.dnw_decoder.Octets.{octets_16, octets_32, Stands}
use Rattle.dnw_encoder.specs.dnw_decoder.Spelling.{NameAt}
use Rattle.dnw_encoder.specs.Effects.{Sound, StaysTrue, WritesOctets, IsRefusal}
use Rattle.dnw_encoder.specs.State.{State}
use Rattle.zsv_parts.specs.declared.tsig.TsigRecord.{TsigRecord}
use Rattle.zsv_parts.specs.Signatures.{HasLongPart, TsigAt, tsig_octets}

-- The record at a place: its owner, which is the name of the key; its type; its class; its time to
-- live; the number of its data's octets, and behind it as many octets that are data of a signature.
pub record TsigRecordAt (message : List ℕ) (place : ℕ) (r : TsigRecord) (end : ℕ) : Type 0 where
  pub owner_end : ℕ
  pub type_end : ℕ
  pub class_end : ℕ
  pub ttl_end : ℕ
  pub first : ℕ
  pub len : ℕ
  pub owner : NameAt message place r.name owner_end
  pub record_type : RecordTypeAt message owner_end kind.TSIG type_end
  pub dns_class : ClassAt message type_end r.dns_class class_end
  pub ttl : Stands message class_end (octets_32 r.ttl) ttl_end
  pub small_ttl : r.ttl < 2 ^ 32
  pub count : Stands message ttl_end (octets_16 len) first
  pub small_len : len < 2 ^ 16
  pub rdata : TsigAt message first len r.rdata
  pub filled : end ≡ first + len

-- The octets of the record: the owner in full, the type, the class, the time to live, how many
-- octets the data take, and the data.
abbrev pub tsig_numbers : TsigRecord → ℕ → List ℕ
tsig_numbers r len =
    octets_16 (record_type_number kind.TSIG) ++ (octets_16 (class_number r.dns_class)
    ++ (octets_32 r.ttl ++ octets_16 len))

abbrev pub tsig_record_octets : TsigRecord → List ℕ
tsig_record_octets r =
    name_octets r.name ++ (tsig_numbers r (length (tsig_octets r.rdata)) ++ tsig_octets r.rdata)

-- What is written of it is read as itself: both names are fully qualified, the class is that of its
-- number, the time has 48 bits, and 16 bits count the octets of the data.
pub record TsigReadsBack (r : TsigRecord) : Type 0 where
  pub owner : r.name.fqdn ≡ true
  pub dns_class : class_of (class_number r.dns_class) ≡ r.dns_class
  pub small_class : class_number r.dns_class < 2 ^ 16
  pub algorithm : r.rdata.algorithm.fqdn ≡ true
  pub time : r.rdata.time < 2 ^ 48
  pub counted : length (tsig_octets r.rdata) < 2 ^ 16

-- The record was written, in whatever mode the encoder is, and within the maximum. One that reads
-- back stands there, in the finished message too.
pub record EmitsTsigRecord (r : TsigRecord) (old new : State) : Type 0 where
  pub exact : WritesOctets (tsig_record_octets r) old new
  pub fits : new.offset ≤ old.maximum
  pub counted : length (tsig_octets r.rdata) < 2 ^ 16
  pub stays : Sound old → TsigReadsBack r
      → StaysTrue new new.offset (λ message. TsigRecordAt message old.offset r new.offset)

-- The data are more octets than 16 bits count.
abbrev pub SaysLongData : ProtoError → Type 0
SaysLongData (Message words) = words.now ≡ codes "a signature of more than 65,535 octets"
SaysLongData other = ⊥

-- The data are too long, and the error says why: the MAC is, or else the other data are; or neither
-- is, but all of the data together.
abbrev pub HasLongData : TsigRecord → ProtoError → Type 0
HasLongData r e =
    (2 ^ 16 ≤ length (tsig_octets r.rdata))
    × (HasLongPart r.rdata e
    ⊎ ((length r.rdata.mac.items ≤ 65535) × (length r.rdata.other.items ≤ 65535)
    × SaysLongData e))

-- It was refused: its data are too long, or else it would pass the maximum or was out of memory.
abbrev pub RefusesTsigRecord : TsigRecord → State → ProtoError → Type 0
RefusesTsigRecord r old e =
    ((length (tsig_octets r.rdata) < 2 ^ 16) × IsRefusal old (length (tsig_record_octets r)) e)
    ⊎ HasLongData r e
