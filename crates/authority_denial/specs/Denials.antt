-- Which names and types the NSEC records of a reply deny (RFC 4035, section 5.4).
use Rattle.std.specs.Prelude.{◌≡◌, ℕ, List, []}
use Rattle.zst_denial.specs.Denials.{Covers, HasNsec, Lacks, SomeOf}
use Rattle.zst_denial.specs.dnw_codes.declared.record_type.RecordType.{RecordType}
use Rattle.zst_denial.specs.dnw_name.DomainName.{DomainName}
use Rattle.zsv_reply.specs.zst_record.declared.records.Record.{Record}
use Rattle.zsv_reply.specs.zsv_message.Messages.{IsMessage, Message}
use Rattle.zsv_reply.specs.zsv_message.zsv_parts.zst_codes.declared.response_code.ResponseCode.TheVariants as codes

-- A message denies a name: its code says so, and an NSEC record among its authorities covers it.
abbrev pub TellsName : Message → DomainName → Type 0
TellsName m name =
    (m.metadata.response_code ≡ codes.NXDomain) × SomeOf (Covers name) m.authorities

-- A message denies a type of a name: it has no error and no answer, and an NSEC record of the name
-- among its authorities lacks the type.
abbrev pub TellsType : Message → DomainName → RecordType → Type 0
TellsType m name t =
    (m.metadata.response_code ≡ codes.NoError) × (m.answers ≡ [])
    × SomeOf (Lacks name t) m.authorities

-- A reply's octets are a message that denies it.
pub record DeniesName (reply : List ℕ) (name : DomainName) : Type 0 where
  pub message : Message
  pub is : IsMessage reply message
  pub denies : TellsName message name

pub record DeniesType (reply : List ℕ) (name : DomainName) (t : RecordType) : Type 0 where
  pub message : Message
  pub is : IsMessage reply message
  pub denies : TellsType message name t

abbrev pub HasNoNsec : Record → Type 0
HasNoNsec r = (next : DomainName) (types : List ℕ) → HasNsec r next types → ⊥
