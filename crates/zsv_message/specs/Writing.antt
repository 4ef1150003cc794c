-- A message as an encoder writes it, whole: RFC 1035, section 4.1; RFC 6891, section 6.1.1; RFC
-- 8945, section 5.1.
use Rattle.std.specs.Prelude.{◌≡◌, ℕ, ◌+◌, ◌<◌, ◌≤◌, ◌^◌, ◌⊎◌, ◌++◌, List, [], ◌∷◌, length, codes, option_to_list}
use Rattle.std.specs.List.{AllByRecursion, sum_by}
use Rattle.zsv_sections.specs.zst_record.dnw_codes.declared.error.ProtoError.{ProtoError}
use Rattle.zsv_sections.specs.zst_record.dnw_codes.declared.error.ProtoError.TheVariants as errors
use Rattle.zsv_sections.specs.zst_record.dnw_decoder.Octets.{Stands}
use Rattle.zsv_sections.specs.zst_record.dnw_encoder.Effects.{Emitted, IsRefusal, Sound, StaysTrue, Writes, WritesOctets}
use Rattle.zsv_sections.specs.zst_record.dnw_encoder.State.{State}
use Rattle.zsv_sections.specs.zst_record.drd_rdata.Writing.{WritesInFull}
use Rattle.zsv_sections.specs.zst_record.Records.{IsServable, RecordAt, plain}
use Rattle.zsv_sections.specs.zst_record.Writing.{EmitsRecord, RefusesRecord}
use Rattle.zsv_sections.specs.zst_record.declared.records.Record.{Record}
use Rattle.zst_edns.specs.Writing.{EdnsReadsBack, EmitsEdns, RefusesEdns, opt_octets}
use Rattle.zsv_sections.specs.zsv_parts.declared.header.Header.{Header}
use Rattle.zsv_sections.specs.zsv_parts.zst_codes.ResponseCode.{joined_code, low_bits}
use Rattle.zsv_sections.specs.zsv_parts.Headers.{HeaderAt, header_octets, op_code_number, op_code_of}
use Rattle.zsv_sections.specs.zsv_parts.SignatureRecords.{EmitsTsigRecord, RefusesTsigRecord, TsigReadsBack, TsigRecordAt, tsig_record_octets}
use Rattle.zsv_sections.specs.zsv_parts.Wire.{Entries}
use Rattle.zsv_sections.specs.zsv_parts.Questions.{AvoidsHeader}
use Rattle.zsv_message.specs.Messages.{IsMessage, Message, OptAt}

-- The records of the three sections, without options and signature.
abbrev pub all_records : Message → List Record
all_records m = m.answers ++ (m.authorities ++ m.additionals)

-- How many records the additional section has: options and signature are among them.
abbrev pub additional_count : Message → ℕ
additional_count m =
    length m.additionals + length (option_to_list m.edns) + length (option_to_list m.signature)

-- The header over a message counts what stands behind it. Of the response code it has the last four
-- bits: the options hold those above (RFC 6891, section 6.1.3).
abbrev pub header_over : Message → Header
header_over m = record {
  metadata =
      record m.metadata { response_code = joined_code 0 (low_bits m.metadata.response_code) };
  counts = record {
    queries = length m.asked.questions;
    answers = length m.answers;
    authorities = length m.authorities;
    additionals = additional_count m;
  };
}

-- The octets of the header, and of the questions as they were read.
abbrev pub front_octets : Message → List ℕ
front_octets m = header_octets (header_over m) ++ m.asked.octets

-- 16 bits count the records of each section.
pub record IsCountable (m : Message) : Type 0 where
  pub answers : length m.answers < 2 ^ 16
  pub authorities : length m.authorities < 2 ^ 16
  pub additionals : additional_count m < 2 ^ 16

-- The error where they don't.
abbrev pub TellsManyRecords : ProtoError → Type 0
TellsManyRecords (errors.Message words) = words.now ≡ codes "more records than 16 bits count"
TellsManyRecords other = ⊥

pub record HasManyRecords (m : Message) (e : ProtoError) : Type 0 where
  pub many : IsCountable m → ⊥
  pub tells : TellsManyRecords e

-- A message at a place, whole, one thing behind the other: its header, the octets of its questions,
-- each record of each section in order, its options and its signature.
pub record MessageAt (message : List ℕ) (place : ℕ) (m : Message) (end : ℕ) : Type 0 where
  pub questions_end : ℕ
  pub answers_end : ℕ
  pub authorities_end : ℕ
  pub additionals_end : ℕ
  pub edns_end : ℕ
  pub header : HeaderAt message place (header_over m) (place + 12)
  pub questions : Stands message (place + 12) m.asked.octets questions_end
  pub answers : Entries (RecordAt message) questions_end m.answers answers_end
  pub authorities : Entries (RecordAt message) answers_end m.authorities authorities_end
  pub additionals : Entries (RecordAt message) authorities_end m.additionals additionals_end
  pub edns : Entries (OptAt message) additionals_end (option_to_list m.edns) edns_end
  pub signature : Entries (TsigRecordAt message) edns_end (option_to_list m.signature) end

-- What is written of each part is read as itself: four bits hold the operation, each record reads
-- back alone, and so do options and signature.
pub record ReadsBack (m : Message) : Type 0 where
  pub op_code : op_code_of (op_code_number m.metadata.op_code) ≡ m.metadata.op_code
  pub small_op_code : op_code_number m.metadata.op_code < 16
  pub records : AllByRecursion IsServable (all_records m)
  pub edns : AllByRecursion EdnsReadsBack (option_to_list m.edns)
  pub signature : AllByRecursion TsigReadsBack (option_to_list m.signature)

-- How many octets a message takes, its names in full.
abbrev pub message_size : Message → ℕ
message_size m =
    12 + length m.asked.octets + sum_by plain (all_records m)
    + sum_by (λ edns. length (opt_octets edns)) (option_to_list m.edns)
    + sum_by (λ signature. length (tsig_record_octets signature)) (option_to_list m.signature)

-- A message was written whole, within the maximum. It stands there, in the finished message too, if
-- each part reads back; the octets of header and questions do in any case. A message that was read
-- and is written at the front is read again as the same, unless a pointer of its questions leads
-- into the header.
pub record EmitsMessage (m : Message) (old new : State) : Type 0 where
  pub countable : IsCountable m
  pub fits : new.offset ≤ old.maximum
  pub front : Sound old
      → StaysTrue new new.offset
      (λ message.
      Stands message old.offset (front_octets m) (old.offset + length (front_octets m)))
  pub stays : ReadsBack m → WritesInFull old → old.maximum < 2 ^ 16
      → StaysTrue new new.offset (λ message. MessageAt message old.offset m new.offset)
  pub again : ReadsBack m → WritesInFull old → old.maximum < 2 ^ 16 → old.offset ≡ 0
      → (octets : List ℕ) (is : IsMessage octets m)
      → AvoidsHeader octets 12 m.asked.questions is.questions_end is.questions.questions.0
      → IsMessage new.octets m
  pub size : ReadsBack m → new.offset ≤ old.offset + message_size m

-- One of these values is refused, behind those before it.
abbrev pub RefusesAmong : {X : Type 0} → (X → State → State → Type 0) → (X → State → Type 0) → State
    → List X → Type 0
RefusesAmong emits Refuses old [] = ⊥
RefusesAmong emits Refuses old (x ∷ xs) =
    Refuses x old
    ⊎ ((mid : State) × emits x old mid × Writes old mid × RefusesAmong emits Refuses mid xs)

-- A part is refused, behind all parts before it: header and questions, a record, the options or the
-- signature.
pub data RefusesPart (m : Message) (old : State) (e : ProtoError) : Type 0 where
  no_front : IsRefusal old (12 + length m.asked.octets) e → RefusesPart m old e
  no_record : (start : State) → WritesOctets (front_octets m) old start
      → RefusesAmong EmitsRecord (λ r at. RefusesRecord r at e) start (all_records m)
      → RefusesPart m old e
  no_options : (start behind : State) → WritesOctets (front_octets m) old start
      → Emitted EmitsRecord start (all_records m) behind
      → RefusesAmong EmitsEdns (λ edns at. RefusesEdns edns at e) behind (option_to_list m.edns)
      → RefusesPart m old e
  no_signature : (start behind last : State) → WritesOctets (front_octets m) old start
      → Emitted EmitsRecord start (all_records m) behind
      → Emitted EmitsEdns behind (option_to_list m.edns) last
      → RefusesAmong EmitsTsigRecord (λ signature at. RefusesTsigRecord signature at e) last
      (option_to_list m.signature)
      → RefusesPart m old e

-- A message is not written whole, though 16 bits count its records: a part is refused. If each part
-- reads back, memory is wanted, or the message would pass the maximum, its names in full.
pub record IsNotWhole (m : Message) (old : State) (e : ProtoError) : Type 0 where
  pub countable : IsCountable m
  pub part : RefusesPart m old e
  pub room : ReadsBack m → old.maximum < 2 ^ 16 → IsRefusal old (message_size m) e

-- It was refused: for the number of its records, and then nothing was written, or for a part of it.
abbrev pub RefusesEmission : Message → State → ProtoError → State → Type 0
RefusesEmission m old e new = (HasManyRecords m e × (new ≡ old)) ⊎ IsNotWhole m old e
