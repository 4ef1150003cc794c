-- Resource records: RFC 1035, section 4.1.3.
use Rattle.std.specs.Prelude.{◌≡◌, ℕ, ◌+◌, ◌^◌, ◌<◌, ◌⊎◌, Bool, true, false, List, length}
use Rattle.std.specs.Ordering.{eq_of_both, on}
use Rattle.drd_rdata.specs.dnw_codes.declared.record_type.RecordType.{RecordType}
use Rattle.drd_rdata.specs.dnw_codes.declared.record_type.RecordType.TheVariants as kind
use Rattle.drd_rdata.specs.dnw_codes.declared.dns_class.DNSClass.{DNSClass}
use Rattle.drd_rdata.specs.dnw_codes.declared.dns_class.DNSClass.TheVariants as class
use Rattle.drd_rdata.specs.dnw_codes.DNSClass.{class_of, same_class}
use Rattle.drd_rdata.specs.dnw_codes.RecordType.{record_type_of}
use Rattle.drd_rdata.specs.dnw_name.DomainName.{DomainName, name_octets, name_eq}
use Rattle.drd_rdata.specs.dnw_decoder.Codes.{RecordTypeAt, ClassAt}
use Rattle.drd_rdata.specs.dnw_decoder.Octets.{octets_16, octets_32, Stands}
use Rattle.drd_rdata.specs.dnw_decoder.Spelling.{NameAt}
use Rattle.drd_rdata.specs.Exceeding.{ExceedsRdlength}
use Rattle.drd_rdata.specs.Order.{rdata_eq}
use Rattle.drd_rdata.specs.Reading.{ReadsAs, IsReadable}
use Rattle.drd_rdata.specs.Types.{type_of}
use Rattle.drd_rdata.specs.Writing.{written_octets}
use Rattle.drd_rdata.specs.declared.rdata.RData.{RData}
use Rattle.drd_rdata.specs.declared.rdata.RData.TheVariants as rdata
use Rattle.zst_record.specs.declared.records.Record.{Record}

-- A record at a place, as it is read: its owner; the numbers of its type and its class; its time to
-- live; the number of its data's octets, and behind it as many octets that are data of its type.
pub record RecordAt (message : List ℕ) (place : ℕ) (r : Record) (end : ℕ) : Type 0 where
  pub owner_end : ℕ
  pub type_end : ℕ
  pub class_end : ℕ
  pub ttl_end : ℕ
  pub first : ℕ
  pub len : ℕ
  pub owner : NameAt message place r.name owner_end
  pub record_type : RecordTypeAt message owner_end (type_of r.rdata) type_end
  pub dns_class : ClassAt message type_end r.dns_class class_end
  pub ttl : Stands message class_end (octets_32 r.ttl) ttl_end
  pub small_ttl : r.ttl < 2 ^ 32
  pub count : Stands message ttl_end (octets_16 len) first
  pub small_len : len < 2 ^ 16
  pub rdata : ReadsAs (type_of r.rdata) message first len r.rdata
  pub filled : end ≡ first + len

abbrev pub record_with : DomainName → DNSClass → ℕ → RData → Record
record_with owner class ttl value =
    record { name = owner; dns_class = class; ttl = ttl; rdata = value }

-- Two records are the same but for their time to live: RFC 2136, section 1.1.1.
abbrev pub record_eq : Record → Record → Bool
record_eq =
    eq_of_both (on (λ r. r.name) name_eq)
    (eq_of_both (on (λ r. r.dns_class) same_class) (on (λ r. r.rdata) rdata_eq))

-- The octets that a record takes, its names in full.
abbrev pub plain : Record → ℕ
plain r = length (name_octets r.name) + (10 + length (written_octets r.rdata))

-- A number of 16 bits that has a name is read as that name. A class of options is none of a record.
abbrev pub IsOwnType : RecordType → Type 0
IsOwnType (kind.Unknown number) =
    (number < 2 ^ 16) × (record_type_of number ≡ kind.Unknown number)
IsOwnType named = Unit {0}

abbrev pub IsOwnClass : DNSClass → Type 0
IsOwnClass (class.OPT payload) = ⊥
IsOwnClass (class.Unknown number) = (number < 2 ^ 16) × (class_of number ≡ class.Unknown number)
IsOwnClass named = Unit {0}

-- Records of these types belong to one message, and to no zone: its options (RFC 6891, section
-- 6.1.1) and its signatures (RFC 2931, section 3; RFC 8945, section 4.2).
abbrev pub belongs_to_message : RecordType → Bool
belongs_to_message kind.OPT = true
belongs_to_message kind.SIG = true
belongs_to_message kind.TSIG = true
belongs_to_message other = false

-- Owner, type and class are read as themselves: the owner is fully qualified, type and class are
-- those of their numbers.
pub record HasOwnHead (r : Record) : Type 0 where
  pub owner : r.name.fqdn ≡ true
  pub own_type : IsOwnType (type_of r.rdata)
  pub own_class : IsOwnClass r.dns_class

-- A record reads back alone: its octets, names uncompressed and of any length in all, are read
-- outside an update as this very record, its RDATA in some message; or its RDATA exceed RDLENGTH,
-- and it is never written.
abbrev pub ReadsBackAlone : Record → Type 0
ReadsBackAlone r = (HasOwnHead r × IsReadable r.rdata) ⊎ ExceedsRdlength r.rdata

-- A zone may hold the record, and a server may send it: it reads back alone, and is of no type
-- whose records belong to one message.
pub record IsServable (r : Record) : Type 0 where
  pub alone : ReadsBackAlone r
  pub of_zones : belongs_to_message (type_of r.rdata) ≡ false

-- No RDATA, as in records of an update (RFC 2136, sections 2.4 and 2.5). Of type OPT, no RDATA are
-- an OPT record without options.
abbrev pub IsEmpty : RData → Type 0
IsEmpty (rdata.Update0 kind.OPT) = ⊥
IsEmpty (rdata.Update0 code) = Unit {0}
IsEmpty other = ⊥

-- A record reads back where it is written: as one that reads back alone, or, without RDATA, in an
-- update. One whose RDATA exceed RDLENGTH is never written.
abbrev pub ReadsBack : Record → Type 0
ReadsBack r =
    (HasOwnHead r × (IsReadable r.rdata ⊎ IsEmpty r.rdata)) ⊎ ExceedsRdlength r.rdata
