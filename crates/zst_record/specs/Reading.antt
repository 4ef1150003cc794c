-- Why no record is read at a place: RFC 1035, section 4.1.3.
use Rattle.std.specs.Prelude.{ℕ, ◌+◌, ◌^◌, ◌<◌, List}
use Rattle.std.proofs.Common.{◌⊎◌}
use Rattle.drd_rdata.specs.dnw_codes.declared.error.DecodeError.{DecodeError}
use Rattle.drd_rdata.specs.dnw_decoder.Codes.{RecordTypeAt, ClassAt}
use Rattle.drd_rdata.specs.dnw_decoder.Octets.{octets_16, octets_32, Stands}
use Rattle.drd_rdata.specs.dnw_decoder.Reading.{IsCut}
use Rattle.drd_rdata.specs.dnw_decoder.Refusals.{Refuses}
use Rattle.drd_rdata.specs.dnw_decoder.Spelling.{NameAt}
use Rattle.drd_rdata.specs.dnw_name.DomainName.{DomainName}
use Rattle.drd_rdata.specs.Reading.{RefusesAs, WantsMemoryAs}
use Rattle.zst_record.specs.declared.read.Head.{Head}

-- What ten octets behind an owner say of a record: its type, its class, its time to live, and how
-- many octets its data take.
pub record HeadAt (message : List ℕ) (place : ℕ) (head : Head) : Type 0 where
  pub type_there : RecordTypeAt message place head.record_type (place + 2)
  pub class_there : ClassAt message (place + 2) head.dns_class (place + 4)
  pub ttl_there : Stands message (place + 4) (octets_32 head.ttl) (place + 8)
  pub small_ttl : head.ttl < 2 ^ 32
  pub len_there : Stands message (place + 8) (octets_16 head.len) (place + 10)
  pub small_len : head.len < 2 ^ 16

-- The octets behind a head are no data of its type, or memory was wanted for them.
pub record LacksData (message : List ℕ) (place : ℕ) (e : DecodeError) : Type 0 where
  pub head : Head
  pub there : HeadAt message place head
  pub some : 0 < head.len
  pub cause : WantsMemoryAs head.record_type message (place + 10) head.len e
      ⊎ RefusesAs head.record_type message (place + 10) head.len e

-- What stands behind an owner is no record's: the head is cut, or its data can't be read.
abbrev pub RefusesBehind : List ℕ → ℕ → DecodeError → Type 0
RefusesBehind message place e = IsCut 10 message place e ⊎ LacksData message place e

-- An owner is spelled at a place, and what stands behind it is no record's.
pub record LacksBehind (message : List ℕ) (place : ℕ) (e : DecodeError) : Type 0 where
  pub owner : DomainName
  pub behind : ℕ
  pub there : NameAt message place owner behind
  pub cause : RefusesBehind message behind e

-- No record is read at a place: its owner can't be read, or what stands behind it.
abbrev pub RefusesRecordAt : List ℕ → ℕ → DecodeError → Type 0
RefusesRecordAt message place e = Refuses message place e ⊎ LacksBehind message place e
