-- Messages: RFC 1035, section 4.1; RFC 6891, section 6.1; RFC 8945, section 4.2.
use Rattle.std.specs.Prelude.{◌≡◌, ℕ, ◌-◌, ◌<◌, ◌≤◌, Bool, true, false, not, ◌&&◌, ◌||◌, ◌==◌, ◌⊎◌, ◌++◌, List, [], ◌∷◌, length, Option, Some, None, find, Result, Ok, Err}
use Rattle.std.specs.List.{filter}
use Rattle.zsv_sections.specs.zst_record.dnw_codes.declared.error.DecodeError.{DecodeError}
use Rattle.zsv_sections.specs.zst_record.dnw_codes.DNSClass.{class_number}
use Rattle.zsv_sections.specs.zst_record.dnw_decoder.Reading.{IsCut, IsWantOfMemory}
use Rattle.zsv_sections.specs.zst_record.dnw_name.DomainName.{DomainName}
use Rattle.zsv_sections.specs.zst_record.drd_rdata.declared.rdata.RData.{RData}
use Rattle.zsv_sections.specs.zst_record.drd_rdata.declared.rdata.RData.TheVariants as rdata
use Rattle.zsv_sections.specs.zst_record.declared.records.Record.{Record}
use Rattle.zsv_sections.specs.zst_record.Records.{RecordAt}
use Rattle.zst_edns.specs.Edns.{IsEdnsOf}
use Rattle.zst_edns.specs.declared.edns.Edns.{Edns}
use Rattle.zsv_sections.specs.zsv_parts.declared.header.HeaderCounts.{HeaderCounts}
use Rattle.zsv_sections.specs.zsv_parts.declared.header.Metadata.{Metadata}
use Rattle.zsv_sections.specs.zsv_parts.declared.header.OpCode.{OpCode}
use Rattle.zsv_sections.specs.zsv_parts.declared.header.OpCode.TheVariants as operations
use Rattle.zsv_sections.specs.zsv_parts.declared.tsig.TsigRecord.{TsigRecord}
use Rattle.zsv_sections.specs.zsv_parts.zst_codes.ResponseCode.{joined_code, low_bits}
use Rattle.zsv_sections.specs.zsv_parts.Headers.{header_of}
use Rattle.zsv_sections.specs.zsv_parts.Questions.{Asked, AskedAt, HasWholeName, RefusesQuestions}
use Rattle.zsv_sections.specs.zsv_parts.Signatures.{RefusesTsig, TsigAt}
use Rattle.zsv_sections.specs.declared.placing.Placing.{Placing}
use Rattle.zsv_sections.specs.Sections.{PlacedRecords, RefusesSection, SectionAt, is_opt, is_root, is_tsig}

-- What a message holds. The response code is the one that header and options give together. A
-- signature by a public key stays among the additional records.
pub record Message : Type 0 where
  pub metadata : Metadata
  pub asked : Asked
  pub answers : List Record
  pub authorities : List Record
  pub additionals : List Record
  pub edns : Option Edns
  pub signature : Option TsigRecord

-- A header counts no records in any section behind the questions.
abbrev pub counts_no_records : HeaderCounts → Bool
counts_no_records counts = counts.answers == 0 && counts.authorities == 0 && counts.additionals == 0

-- It counts one question, and no records.
abbrev pub asks_alone : HeaderCounts → Bool
asks_alone counts = counts.queries == 1 && counts_no_records counts

-- A message of questions alone.
abbrev pub bare_message : Metadata → Asked → Message
bare_message m asked = record {
  metadata = m;
  asked = asked;
  answers = [];
  authorities = [];
  additionals = [];
  edns = None;
  signature = None;
}

-- The options of a message, its class the payload, its TTL eight bits of the response code, the
-- version and the flags (RFC 6891, section 6.1.3).
abbrev pub IsEdnsRecord : Record → Edns → Type 0
IsEdnsRecord r edns =
    (r.rdata ≡ rdata.OPT edns.options) × IsEdnsOf (class_number r.dns_class) r.ttl edns

-- An OPT record at a place, as it is read.
pub record OptAt (message : List ℕ) (place : ℕ) (edns : Edns) (end : ℕ) : Type 0 where
  pub standing : Record
  pub there : RecordAt message place standing end
  pub owner : is_root standing.name ≡ true
  pub says : IsEdnsRecord standing edns

abbrev pub IsEdnsFor : Option Record → Option Edns → Type 0
IsEdnsFor None None = Unit {0}
IsEdnsFor (Some r) (Some edns) = IsEdnsRecord r edns
IsEdnsFor None (Some edns) = ⊥
IsEdnsFor (Some r) None = ⊥

-- Data whose form isn't known, as those of a signature are where only records are read.
abbrev pub data_octets : RData → Option (List ℕ)
data_octets (rdata.Unknown code null) = Some null.anything.items
data_octets other = None

-- The signature of a record, its data so many octets at a place. They are read where they stand,
-- since the name in them may have pointers.
pub record IsSigned (message : List ℕ) (place len : ℕ) (r : Record) (tsig : TsigRecord) : Type 0
  where
    pub name : tsig.name ≡ r.name
    pub dns_class : tsig.dns_class ≡ r.dns_class
    pub ttl : tsig.ttl ≡ r.ttl
    pub rdata : TsigAt message place len tsig.rdata

-- The signature whose record ends the records of a message, and its data the record.
pub record IsSignatureRecord (message : List ℕ) (end : ℕ) (r : Record) (tsig : TsigRecord) :
    Type 0 where
  pub octets : List ℕ
  pub whole : data_octets r.rdata ≡ Some octets
  pub there : IsSigned message (end - length octets) (length octets) r tsig

abbrev pub IsSignatureFor : List ℕ → ℕ → Option Record → Option TsigRecord → Type 0
IsSignatureFor message end None None = Unit {0}
IsSignatureFor message end (Some r) (Some tsig) = IsSignatureRecord message end r tsig
IsSignatureFor message end None (Some tsig) = ⊥
IsSignatureFor message end (Some r) None = ⊥

-- The response code has eight bits in the options, above the four of the header (RFC 6891, section
-- 6.1.3).
abbrev pub joined_metadata : Metadata → Option Edns → Metadata
joined_metadata m None = m
joined_metadata m (Some edns) =
    record m { response_code = joined_code edns.rcode_high (low_bits m.response_code) }

-- How many octets a sender takes in a datagram: what its options say, which is 512 at least (RFC
-- 6891, section 6.2.3); 512 without options (RFC 1035, section 4.2.1).
abbrev pub payload_taken : Option Edns → ℕ
payload_taken None = 512
payload_taken (Some edns) = edns.max_payload

-- The version of EDNS that a sender speaks (RFC 6891, section 6.1.3).
abbrev pub edns_version : Option Edns → ℕ
edns_version None = 0
edns_version (Some edns) = edns.version

abbrev pub is_update : OpCode → Bool
is_update operations.Update = true
is_update other = false

-- Before the additional section, and in it.
abbrev pub before_additionals : OpCode → Placing
before_additionals op = record {
  is_update = is_update op;
  is_additional = false;
  is_signed = false;
  has_options = false;
}

abbrev pub in_additionals : OpCode → Placing
in_additionals op = record {
  is_update = is_update op;
  is_additional = true;
  is_signed = false;
  has_options = false;
}

-- The records of an additional section that are no options and no TSIG.
abbrev pub other_records : List Record → List Record
other_records records = filter (λ r. not (is_opt r || is_tsig r)) records

-- An additional section: so many records, and what is kept of them.
pub record AdditionalsAt (message : List ℕ) (op : OpCode) (place count : ℕ)
    (others : List Record) (edns : Option Edns) (signature : Option TsigRecord) (end : ℕ) :
    Type 0 where
  pub standing : List Record
  pub there : SectionAt (in_additionals op) message place count standing end
  pub rest : others ≡ other_records standing
  pub options : IsEdnsFor (find is_opt standing) edns
  pub signs : IsSignatureFor message end (find is_tsig standing) signature

-- A message: a header, and as many questions and records as it counts, one behind the other. What
-- stands behind the last one is free.
pub record IsMessage (octets : List ℕ) (m : Message) : Type 0 where
  pub long : 12 ≤ length octets
  pub questions_end : ℕ
  pub answers_end : ℕ
  pub authorities_end : ℕ
  pub end : ℕ
  pub questions : AskedAt octets 12 (header_of octets).counts.queries m.asked questions_end
  pub answers : SectionAt (before_additionals (header_of octets).metadata.op_code) octets
      questions_end (header_of octets).counts.answers m.answers answers_end
  pub authorities : SectionAt (before_additionals (header_of octets).metadata.op_code) octets
      answers_end (header_of octets).counts.authorities m.authorities authorities_end
  pub additionals : AdditionalsAt octets (header_of octets).metadata.op_code authorities_end
      (header_of octets).counts.additionals m.additionals m.edns m.signature end
  pub metadata : m.metadata ≡ joined_metadata (header_of octets).metadata m.edns

-- Octets hold a header that counts one question and no records, and the question, whose name stands
-- in full.
pub record AsksWhole (octets : List ℕ) (asked : Asked) : Type 0 where
  pub long : 12 ≤ length octets
  pub alone : asks_alone (header_of octets).counts ≡ true
  pub end : ℕ
  pub there : AskedAt octets 12 1 asked end
  pub name : DomainName
  pub whole : HasWholeName asked name

-- The data of a TSIG that ends the records of a section are refused.
pub record RefusesSignature (op : OpCode) (message : List ℕ) (place count : ℕ) (e : DecodeError) :
    Type 0 where
  pub before : List Record
  pub standing : Record
  pub end : ℕ
  pub there : PlacedRecords (in_additionals op) message place (before ++ standing ∷ []) end
  pub fewer : length before < count
  pub signed : is_tsig standing ≡ true
  pub octets : List ℕ
  pub whole : data_octets standing.rdata ≡ Some octets
  pub cause : RefusesTsig message (end - length octets) (length octets) e

-- No additional section is read at a place.
abbrev pub RefusesAdditionals : OpCode → List ℕ → ℕ → ℕ → DecodeError → Type 0
RefusesAdditionals op message place count e =
    RefusesSection (in_additionals op) message place count e
    ⊎ RefusesSignature op message place count e

-- Octets are no message, as the error says: of what stands one behind the other, the header first,
-- this is the first that can't be read.
pub data RefusesMessage (octets : List ℕ) (e : DecodeError) : Type 0 where
  no_header : IsCut 12 octets 0 e → RefusesMessage octets e
  no_questions : 12 ≤ length octets
      → RefusesQuestions octets 12 (header_of octets).counts.queries e → RefusesMessage octets e
  no_answers : 12 ≤ length octets → (asked : Asked) (place : ℕ)
      → AskedAt octets 12 (header_of octets).counts.queries asked place
      → RefusesSection (before_additionals (header_of octets).metadata.op_code) octets place
      (header_of octets).counts.answers e → RefusesMessage octets e
  no_authorities : 12 ≤ length octets → (asked : Asked) (answers : List Record) (first place : ℕ)
      → AskedAt octets 12 (header_of octets).counts.queries asked first
      → SectionAt (before_additionals (header_of octets).metadata.op_code) octets first
      (header_of octets).counts.answers answers place
      → RefusesSection (before_additionals (header_of octets).metadata.op_code) octets place
      (header_of octets).counts.authorities e → RefusesMessage octets e
  no_additionals : 12 ≤ length octets → (asked : Asked) (answers authorities : List Record)
      (first second place : ℕ)
      → AskedAt octets 12 (header_of octets).counts.queries asked first
      → SectionAt (before_additionals (header_of octets).metadata.op_code) octets first
      (header_of octets).counts.answers answers second
      → SectionAt (before_additionals (header_of octets).metadata.op_code) octets second
      (header_of octets).counts.authorities authorities place
      → RefusesAdditionals (header_of octets).metadata.op_code octets place
      (header_of octets).counts.additionals e → RefusesMessage octets e

-- What reading a message answers, both ways. Memory is wanted only behind a whole header.
abbrev pub ReadsMessage : List ℕ → Result Message DecodeError → Type 0
ReadsMessage octets (Ok m) = IsMessage octets m
ReadsMessage octets (Err e) =
    ((IsWantOfMemory e × (12 ≤ length octets)) ⊎ RefusesMessage octets e)
    × (IsWantOfMemory e ⊎ ((m : Message) → IsMessage octets m → ⊥))
