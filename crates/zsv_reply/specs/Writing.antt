-- A reply as an encoder writes it: as many records of each list as fit, then options of EDNS and a
-- signature, then the header over them.
use Rattle.std.specs.Prelude.{◌≡◌, ℕ, ◌+◌, ◌^◌, ◌<◌, ◌≤◌, ◌++◌, ◌⊎◌, Bool, true, false, ◌&&◌, ◌||◌, List, [], length, nat_le, nat_lt, Option, Some, None, option_to_list, Result, Ok, Err}
use Rattle.std.specs.List.{AllByRecursion}
use Rattle.zsv_request.specs.zsv_message.zst_record.dnw_codes.declared.error.ProtoError.{ProtoError}
use Rattle.zsv_request.specs.zsv_message.zst_record.dnw_codes.declared.error.ProtoError.TheVariants.{NotAllRecordsWritten}
use Rattle.zsv_request.specs.zsv_message.zst_record.dnw_decoder.Octets.{Stands}
use Rattle.zsv_request.specs.zsv_message.zst_record.dnw_encoder.Effects.{Agrees, Has, StaysTrue}
use Rattle.zsv_request.specs.zsv_message.zst_record.dnw_encoder.State.{State}
use Rattle.zsv_request.specs.zsv_message.zst_record.dnw_decoder.Spelling.{NameAt}
use Rattle.zsv_request.specs.zsv_message.zst_record.dnw_name.DomainName.{DomainName, name_octets}
use Rattle.zsv_request.specs.zsv_message.zst_record.drd_rdata.Writing.{WritesInFull}
use Rattle.zsv_request.specs.zsv_message.zst_record.declared.records.Record.{Record}
use Rattle.zsv_request.specs.zsv_message.zst_record.Records.{IsServable, plain}
use Rattle.zsv_request.specs.zsv_message.Messages.{OptAt}
use Rattle.zsv_request.specs.zsv_message.zst_edns.Writing.{EdnsReadsBack, opt_octets}
use Rattle.zsv_request.specs.zsv_message.zst_edns.declared.edns.Edns.{Edns}
use Rattle.zsv_request.specs.zsv_message.zsv_parts.declared.header.MessageType.TheVariants as messages
use Rattle.zsv_request.specs.zsv_message.zsv_parts.declared.header.Metadata.{Metadata}
use Rattle.zsv_request.specs.zsv_message.zsv_parts.declared.header.Header.{Header}
use Rattle.zsv_request.specs.zsv_message.zsv_parts.declared.tsig.TsigRecord.{TsigRecord}
use Rattle.zsv_request.specs.zsv_message.zsv_parts.zst_codes.declared.response_code.ResponseCode.{ResponseCode}
use Rattle.zsv_request.specs.zsv_message.zsv_parts.Headers.{FitsOpCode, header_of, reserved_bit}
use Rattle.zsv_request.specs.zsv_message.zsv_parts.Questions.{Asked}
use Rattle.zsv_request.specs.zsv_message.zsv_parts.SignatureRecords.{TsigReadsBack, TsigRecordAt}
use Rattle.zsv_request.specs.Requests.{limit_of}
use Rattle.zsv_request.specs.declared.protocol.Protocol.{Protocol}
use Rattle.zst_pointing.specs.Pointing.{ArePointing}
use Rattle.zsv_reply.specs.declared.fronts.Kept.{Kept}
use Rattle.zsv_reply.specs.declared.written_reply.WrittenRecords.{WrittenRecords}
use Rattle.zsv_reply.specs.Replies.{Front, Fronts, FrontsAt, ReplyParts, ReplyRecordAt, bare_failure, first_labels, header_of_fronts, header_of_reply, is_cut, leaves_room, opt_plain, tsig_plain}

-- The parts of a reply without records, options and a signature.
abbrev pub bare_parts : Metadata → ReplyParts
bare_parts m = record {
  metadata = m;
  answers = [];
  authorities = [];
  additionals = [];
  edns = None;
  signature = None;
}

-- The header of a reply repeats the identifier, the operation, RD and CD.
abbrev pub reply_metadata : Metadata → Bool → ResponseCode → Metadata
reply_metadata m authoritative code = record {
  id = m.id;
  message_type = messages.Response;
  op_code = m.op_code;
  authoritative = authoritative;
  truncation = false;
  recursion_desired = m.recursion_desired;
  recursion_available = false;
  authentic_data = false;
  checking_disabled = m.checking_disabled;
  response_code = code;
}

-- An error has no records.
abbrev pub error_parts : Metadata → ResponseCode → ReplyParts
error_parts m code = bare_parts (reply_metadata m false code)

-- With these options.
abbrev pub with_edns : Option Edns → ReplyParts → ReplyParts
with_edns edns parts = record parts { edns = edns }

-- What a reply holds that has answers and records of authority behind its questions, and options.
abbrev pub written_parts : Metadata → List Record → List Record → Option Edns → ReplyParts
written_parts m answers authorities edns = record {
  metadata = m;
  answers = answers;
  authorities = authorities;
  additionals = [];
  edns = edns;
  signature = None;
}

-- Octets that were written before are these records, behind a question section that begins with a
-- name: so many answers, and so many records of authority behind them.
pub record AreWritten (asked : DomainName) (written : WrittenRecords)
    (answers authorities : List Record) : Type 0 where
  pub answered : length answers ≡ written.answers
  pub authorized : length authorities ≡ written.authorities
  pub pointing : ArePointing asked (answers ++ authorities) written.octets.now

-- With them a reply passes its limit, or there are options that are to be written.
abbrev pub NeedsEncoder : Option Edns → Asked → List ℕ → ℕ → Type 0
NeedsEncoder None asked octets limit = limit < 12 + length asked.octets + length octets
NeedsEncoder (Some edns) asked octets limit =
    (0 < length edns.options.options.items)
    ⊎ (limit < 12 + length asked.octets + length octets + length (opt_octets edns))

-- Each record of a reply can be served, and its options and its signature read back.
pub record AllReadBack (parts : ReplyParts) : Type 0 where
  pub answers : AllByRecursion IsServable parts.answers
  pub authorities : AllByRecursion IsServable parts.authorities
  pub additionals : AllByRecursion IsServable parts.additionals
  pub edns : AllByRecursion EdnsReadsBack (option_to_list parts.edns)
  pub signature : AllByRecursion TsigReadsBack (option_to_list parts.signature)

-- How many items were written, all or those before one that didn't fit, and whether there was such
-- a one.
abbrev pub written_count : Result ℕ ProtoError → Result (ℕ × Bool) ProtoError
written_count (Ok count) = Ok (count, false)
written_count (Err (NotAllRecordsWritten count)) = Ok (count, true)
written_count (Err other) = Err other

-- Nothing is kept: the writing was refused otherwise, or 16 bits don't count the items.
abbrev pub IsNotKept : Result (ℕ × Bool) ProtoError → ProtoError → Type 0
IsNotKept (Ok written) e = 2 ^ 16 ≤ written.0
IsNotKept (Err refused) e = e ≡ refused

-- The front of a list was written, so many items: it stands there in the finished message too.
-- Where there are any, they end within the maximum.
pub record EmitsFront {X : Type 0} (At : List ℕ → ℕ → X → ℕ → Type 0) (size : X → ℕ)
    (items : List X) (written : Kept) (old new : State) : Type 0 where
  pub kept : List X
  pub counted : length kept ≡ written.count
  pub cut : is_cut items kept ≡ written.is_cut
  pub stays : StaysTrue new new.offset
      (λ message. Front At size message old.maximum old.offset items kept new.offset)
  pub room : 0 < written.count → new.offset ≤ old.maximum

-- Questions were written as they were sent: they stand there, in the finished message too. Names to
-- which later ones may point are at most those of the first one's labels.
pub record EmitsQuestions (asked : Asked) (old new : State) : Type 0 where
  pub stays : StaysTrue new new.offset
      (λ message. Stands message old.offset asked.octets (old.offset + length asked.octets))
  pub offset : new.offset ≡ old.offset + length asked.octets
  pub few : length new.candidates ≤ length old.candidates + first_labels asked.questions

-- Owners point to the first one in a reply with these questions that an encoder begins.
abbrev pub lets_point : State → Asked → Bool
lets_point s asked =
    s.points
    && (nat_lt (12 + length asked.octets) 16383
    && nat_le (length s.candidates + first_labels asked.questions) 63)

-- An encoder goes on writing the records of a reply, which begin at a place: the owner of the first
-- of them is one to which later ones point, where they are to, or there is room for it.
pub record LeadsRecords (points : Bool) (first : ℕ) (s : State) : Type 0 where
  pub in_full : WritesInFull s
  pub small : s.maximum < 2 ^ 16
  pub before : first ≤ s.offset
  pub pointing : points ≡ true → s.points ≡ true
  pub early : points ≡ true → first < 16383
  pub room : points ≡ true → s.offset ≡ first → length s.candidates < 64
  pub known : points ≡ true → first < s.offset → (later : List ℕ) → Agrees s s.offset later
      → (name : DomainName) (behind : ℕ) → NameAt later first name behind
      → 0 < length name.labels → Has s.candidates (name_octets name)

-- The fronts of the additional records, of the options and of the signature were written, one
-- behind the other: so many records together.
pub record EmitsAdditionals (points : Bool) (first : ℕ) (records : List Record)
    (edns : Option Edns) (signature : Option TsigRecord) (written : Kept) (old new : State) :
    Type 0 where
  pub kept : List Record
  pub kept_edns : List Edns
  pub kept_signature : List TsigRecord
  pub records_end : ℕ
  pub edns_end : ℕ
  pub counted : length kept + length kept_edns + length kept_signature ≡ written.count
  pub cut : ((is_cut records kept || is_cut (option_to_list edns) kept_edns)
      || is_cut (option_to_list signature) kept_signature) ≡ written.is_cut
  pub records_stay : StaysTrue new new.offset
      (λ message.
      Front (ReplyRecordAt points first) plain message old.maximum old.offset records kept
      records_end)
  pub options_stay : StaysTrue new new.offset
      (λ message.
      Front OptAt opt_plain message old.maximum records_end (option_to_list edns) kept_edns
      edns_end)
  pub signature_stays : StaysTrue new new.offset
      (λ message.
      Front TsigRecordAt tsig_plain message old.maximum edns_end (option_to_list signature)
      kept_signature new.offset)
  pub fits : old.offset ≤ old.maximum → new.offset ≤ old.maximum

-- A reply as it is written: the header, the questions as they were sent, a front of each list, and
-- nothing behind. An opcode that four bits hold is read back.
pub record IsWritten (points : Bool) (reply : List ℕ) (parts : ReplyParts) (questions : ℕ)
    (question_octets : List ℕ) (limit : ℕ) : Type 0 where
  pub kept : Fronts
  pub asked : Stands reply 12 question_octets (12 + length question_octets)
  pub fronts : FrontsAt points reply limit (12 + length question_octets) parts kept
  pub header : FitsOpCode parts.metadata → header_of reply ≡ header_of_fronts parts questions kept
  pub reserved : reserved_bit reply ≡ false
  pub within : length reply ≤ limit

-- A reply that was written, and its header, which says what is left out whatever the opcode.
pub record IsEmitted (points : Bool) (info : Header) (reply : List ℕ) (parts : ReplyParts)
    (asked : Asked) (limit : ℕ) : Type 0 where
  pub written : IsWritten points reply parts (length asked.questions) asked.octets limit
  pub header : info ≡ header_of_fronts parts (length asked.questions) written.kept

-- A header alone, which says that the server failed.
pub record IsBare (info : Header) (reply : List ℕ) (id : ℕ) : Type 0 where
  pub long : length reply ≡ 12
  pub header : info ≡ header_of reply
  pub says : info ≡ header_of_reply (bare_failure id) false 0 0 0 0
  pub reserved : reserved_bit reply ≡ false

-- The octets of a reply within a limit, and its header: the reply, or a header alone where not even
-- the questions fit.
pub record IsEncoded (info : Header) (reply : List ℕ) (parts : ReplyParts) (asked : Asked)
    (limit : ℕ) : Type 0 where
  pub within : length reply ≤ limit
  pub reserved : reserved_bit reply ≡ false
  pub whole : 12 + length asked.octets ≤ limit
      → IsEmitted (leaves_room asked) info reply parts asked limit
  pub bare : limit < 12 + length asked.octets → IsBare info reply parts.metadata.id

-- The octets of a reply of these parts, and its header: within the limit of the transport whatever
-- the records are, and the reply to the questions if each record reads back.
pub record SendsParts (parts : ReplyParts) (asked : Asked) (transport : Protocol) (info : Header)
    (reply : List ℕ) : Type 0 where
  pub within : length reply ≤ limit_of transport parts.edns
  pub stands : AllReadBack parts → IsEncoded info reply parts asked (limit_of transport parts.edns)

-- The same, of these parts and options.
abbrev pub Sends : ReplyParts → Option Edns → Asked → Protocol → Header → List ℕ → Type 0
Sends parts edns asked transport info reply =
    SendsParts (with_edns edns parts) asked transport info reply
