-- A zone from a reply to an AXFR question, in one message: RFC 5936, sections 2.2 and 3.
use Rattle.std.specs.Prelude.{◌≡◌, ◌⊎◌, ℕ, ◌+◌, ◌≤◌, Bool, true, false, not, ◌&&◌, ◌||◌, List, [], ◌∷◌, ◌++◌, length, Option, Some, None, is_some, Result, Ok, Err, if◌then◌else◌}
use Rattle.std.specs.List.{AllByRecursion, list_any}
use Rattle.drd_record_data.specs.Numbers.{NumbersFit}
use Rattle.zsv_message.specs.Messages.{IsMessage, Message}
use Rattle.zsv_message.specs.zst_record.Records.{record_eq}
use Rattle.zsv_message.specs.zst_record.RecordSets.{RRset}
use Rattle.zsv_message.specs.zst_record.declared.records.Record.{Record}
use Rattle.zsv_message.specs.zst_record.dnw_codes.DNSClass.{same_class}
use Rattle.zsv_message.specs.zst_record.dnw_codes.RecordType.{same_record_type}
use Rattle.zsv_message.specs.zst_record.dnw_codes.declared.error.DecodeError.{DecodeError}
use Rattle.zsv_message.specs.zst_record.dnw_codes.declared.error.DecodeError.TheVariants as reading
use Rattle.zsv_message.specs.zst_record.dnw_codes.declared.dns_class.DNSClass.TheVariants.{IN}
use Rattle.zsv_message.specs.zst_record.dnw_codes.declared.record_type.RecordType.TheVariants as kind
use Rattle.zsv_message.specs.zst_record.dnw_name.DomainName.{DomainName, is_at_or_below}
use Rattle.zsv_message.specs.zst_record.drd_rdata.Types.{type_of}
use Rattle.zsv_message.specs.zsv_parts.Headers.{same_op_code}
use Rattle.zsv_message.specs.zsv_parts.declared.header.MessageType.{MessageType}
use Rattle.zsv_message.specs.zsv_parts.declared.header.MessageType.TheVariants as kinds
use Rattle.zsv_message.specs.zsv_parts.declared.header.Metadata.{Metadata}
use Rattle.zsv_message.specs.zsv_parts.declared.header.OpCode.TheVariants as operations
use Rattle.zsv_message.specs.zsv_parts.zst_codes.ResponseCode.{same_response_code}
use Rattle.zsv_message.specs.zsv_parts.zst_codes.declared.response_code.ResponseCode.TheVariants as codes
use Rattle.authority_load.specs.Joining.{Joins, is_beside_alias, is_second_start}
use Rattle.authority_load.specs.Loaded.{added_by_signing}
use Rattle.authority_load.specs.zst_zone.zst_handler.Zones.{Zone}
use Rattle.authority_load.specs.zst_zone.zst_request.Transfers.{is_start}
use Rattle.authority_transfer.specs.declared.error.TransferError.{TransferError}
use Rattle.authority_transfer.specs.declared.error.TransferError.TheVariants as errors

-- ---- the whole reply
abbrev pub is_response : MessageType → Bool
is_response kinds.Query = false
is_response kinds.Response = true

-- A reply to a query, without an error (RFC 1035, section 4.1.1).
abbrev pub is_answer : Metadata → Bool
is_answer m =
    is_response m.message_type && (same_op_code m.op_code operations.Query
    && same_response_code m.response_code codes.NoError)

abbrev pub is_sig : Record → Bool
is_sig r = same_record_type (type_of r.rdata) kind.SIG

-- A message with a TSIG (RFC 8945, section 4.2) or a SIG (RFC 2931, section 3).
abbrev pub is_signed : Message → Bool
is_signed m = is_some m.signature || list_any is_sig m.additionals

-- Why no message is read: out of memory, or there is none.
abbrev pub unread : DecodeError → TransferError
unread reading.Memory = errors.OutOfMemory
unread other = errors.NotAMessage

-- The first cause that refuses a message, whatever its answers are.
abbrev pub reply_fault : Message → Option TransferError
reply_fault m =
    if not (is_answer m.metadata) then Some errors.NotAReply
    else if m.metadata.truncation then Some errors.Truncated
    else if is_signed m then Some errors.Signed else None

-- The cause of what was read: why it is no message, or the first that refuses the message.
abbrev pub fault_read : Result Message DecodeError → Option TransferError
fault_read (Ok m) = reply_fault m
fault_read (Err e) = Some (unread e)

-- The last of some records and one before them.
abbrev pub last_of : Record → List Record → Record
last_of r [] = r
last_of r (s ∷ rs) = last_of s rs

abbrev pub but_last : List Record → List Record
but_last [] = []
but_last (r ∷ []) = []
but_last (r ∷ s ∷ rs) = r ∷ but_last (s ∷ rs)

-- The first of the answers, if there is one, is an SOA of the origin, and the last is equal to it.
abbrev pub begins_with : DomainName → Option Record → Record → Bool
begins_with origin None last = false
begins_with origin (Some first) last = is_start origin first && record_eq first last

-- At least two answers begin and end with the same SOA of the origin (RFC 5936, section 2.2).
abbrev pub is_framed : DomainName → List Record → Bool
is_framed origin (first ∷ second ∷ rs) = begins_with origin (Some first) (last_of second rs)
is_framed origin fewer = false

-- The first cause that refuses the whole reply.
abbrev pub frame_fault : DomainName → List Record → Option TransferError → Option TransferError
frame_fault origin answers (Some e) = Some e
frame_fault origin answers None = if is_framed origin answers then None else Some errors.NoFrame

abbrev pub whole_fault : DomainName → Message → Option TransferError
whole_fault origin m = frame_fault origin m.answers (reply_fault m)

-- Octets are no reply that transfers the zone of an origin, by the first cause. Without a whole
-- header they are no message, and nothing is allocated.
abbrev pub IsReplyFault : DomainName → List ℕ → TransferError → Type 0
IsReplyFault origin octets errors.NotAMessage = (m : Message) → IsMessage octets m → ⊥
IsReplyFault origin octets errors.OutOfMemory = 12 ≤ length octets
IsReplyFault origin octets e =
    (m : Message) × IsMessage octets m × (whole_fault origin m ≡ Some e)

-- ---- its records, one after the other
-- A record may join: it is of class IN, and neither an alias beside another set or a second alias
-- nor a second SOA.
abbrev pub may_join : List RRset → Record → Bool
may_join sets r =
    same_class r.dns_class IN && (not (is_beside_alias sets r) && not (is_second_start sets r))

-- The first cause that refuses the answer at an index, in the zone of the answers before it. Every
-- answer of a message can be served.
abbrev pub record_fault : Zone → ℕ → Record → Option TransferError
record_fault zone index r =
    if not (is_at_or_below r.name zone.origin) then Some errors.OutsideZone
    else if added_by_signing (type_of r.rdata) then Some errors.DnssecRecord
    else if may_join zone.sets r then None else Some (errors.Record index)

-- The zone after the records from an index on: none is refused, and each joins.
abbrev pub TakesFrom : ℕ → Zone → List Record → Zone → Type 0
TakesFrom index zone [] end = end ≡ zone
TakesFrom index zone (r ∷ rs) end =
    (record_fault zone index r ≡ None) × (next : Zone) × Joins zone r next
    × TakesFrom (index + 1) next rs end

abbrev pub TakesAll : Zone → List Record → Zone → Type 0
TakesAll zone rs end = TakesFrom 0 zone rs end

-- A record is refused, by its first cause: those before it are taken.
pub record RefusesOne (old : Zone) (rs : List Record) (e : TransferError) : Type 0 where
  pub front : List Record
  pub refused : Record
  pub later : List Record
  pub parts : rs ≡ front ++ refused ∷ later
  pub zone : Zone
  pub before : TakesAll old front zone
  pub cause : record_fault zone (length front) refused ≡ Some e

abbrev pub RefusesRecords : Zone → List Record → TransferError → Type 0
RefusesRecords old rs e = (e ≡ errors.OutOfMemory) ⊎ RefusesOne old rs e

-- ---- the zone
abbrev pub AllNumbersFit : List Record → Type 0
AllNumbersFit rs = AllByRecursion (λ r. NumbersFit r.rdata) rs

-- Octets hold a reply that transfers the zone of an origin, and these are its answers but the last.
-- The numbers of each answer fit their fields.
pub record IsTransferred (origin : DomainName) (octets : List ℕ) (rs : List Record) : Type 0 where
  pub message : Message
  pub there : IsMessage octets message
  pub whole : whole_fault origin message ≡ None
  pub records : rs ≡ but_last message.answers
  pub fits : AllNumbersFit message.answers

-- Octets hold a message whose answers are not those of a transfer.
pub record IsUnframed (origin : DomainName) (octets : List ℕ) : Type 0 where
  pub message : Message
  pub there : IsMessage octets message
  pub fits : AllNumbersFit message.answers
  pub unframed : is_framed origin message.answers ≡ false

-- The message with other answers.
abbrev pub answered_with : Message → List Record → Message
answered_with m answers = record m { answers = answers }

-- The result of reading the reply.
abbrev pub ReplyGives : {X : Type 0} → DomainName → List ℕ → (X → List Record)
    → Result X TransferError → Type 0
ReplyGives origin octets records_in (Ok x) = IsTransferred origin octets (records_in x)
ReplyGives origin octets records_in (Err e) = IsReplyFault origin octets e

-- The zone of a transfer, from a zone without records on.
pub record IsTransferOf (empty : Zone) (octets : List ℕ) (zone : Zone) : Type 0 where
  pub records : List Record
  pub transferred : IsTransferred empty.origin octets records
  pub takes : TakesAll empty records zone

-- A record of a transfer is refused.
pub record RefusesTransfer (empty : Zone) (octets : List ℕ) (e : TransferError) : Type 0 where
  pub records : List Record
  pub transferred : IsTransferred empty.origin octets records
  pub refuses : RefusesOne empty records e

-- No zone is made of octets: the whole is refused, or else a record, by the first cause.
abbrev pub IsTransferFault : Zone → List ℕ → TransferError → Type 0
IsTransferFault empty octets e =
    IsReplyFault empty.origin octets e ⊎ RefusesTransfer empty octets e

-- The result of loading a transfer; `zone_of` gives the zone of what is made.
abbrev pub TransferGives : {X : Type 0} → Zone → List ℕ → (X → Zone) → Result X TransferError
    → Type 0
TransferGives empty octets zone_of (Ok made) = IsTransferOf empty octets (zone_of made)
TransferGives empty octets zone_of (Err e) = IsTransferFault empty octets e
