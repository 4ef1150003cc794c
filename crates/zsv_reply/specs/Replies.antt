-- A reply: what it holds in full, and how that stands in octets, cut at a limit (RFC 1035, section
-- 4.1; RFC 2181, section 9; RFC 6891, section 6.1; RFC 8945, section 5.1; RFC 9471, section 3.1).
use Rattle.std.specs.Prelude.{◌≡◌, ℕ, ◌+◌, ◌<◌, ◌≤◌, Bool, true, false, ◌&&◌, ◌||◌, List, [], ◌∷◌, length, nat_le, nat_lt, Option, option_to_list}
use Rattle.zsv_request.specs.zsv_message.zst_record.declared.records.Record.{Record}
use Rattle.zsv_request.specs.zsv_message.zst_record.dnw_decoder.Octets.{Stands}
use Rattle.zsv_request.specs.zsv_message.zst_record.dnw_decoder.Spelling.{NameAt}
use Rattle.zsv_request.specs.zsv_message.zst_record.dnw_name.DomainName.{name_octets}
use Rattle.zsv_request.specs.zsv_message.zst_record.Records.{RecordAt, plain}
use Rattle.zsv_request.specs.zsv_message.Messages.{OptAt}
use Rattle.zsv_request.specs.zsv_message.zst_edns.Writing.{opt_octets}
use Rattle.zsv_request.specs.zsv_message.zst_edns.declared.edns.Edns.{Edns}
use Rattle.zsv_request.specs.zsv_message.zsv_parts.declared.header.Metadata.{Metadata}
use Rattle.zsv_request.specs.zsv_message.zsv_parts.declared.question.Query.{Query}
use Rattle.zsv_request.specs.zsv_message.zsv_parts.declared.header.Header.{Header}
use Rattle.zsv_request.specs.zsv_message.zsv_parts.declared.header.MessageType.TheVariants as messages
use Rattle.zsv_request.specs.zsv_message.zsv_parts.declared.header.OpCode.TheVariants as operations
use Rattle.zsv_request.specs.zsv_message.zsv_parts.zst_codes.ResponseCode.{joined_code, low_bits}
use Rattle.zsv_request.specs.zsv_message.zsv_parts.zst_codes.declared.response_code.ResponseCode.TheVariants as responses
use Rattle.zsv_request.specs.zsv_message.zsv_parts.Headers.{header_of, reserved_bit}
use Rattle.zsv_request.specs.zsv_message.zsv_parts.Questions.{Asked, QuestionAt, QuestionsAt, AvoidsHeader}
use Rattle.zsv_request.specs.zsv_message.zsv_parts.SignatureRecords.{TsigRecordAt, tsig_record_octets}
use Rattle.zsv_request.specs.zsv_message.zsv_parts.Wire.{Entries}
use Rattle.zsv_request.specs.zsv_message.zsv_parts.declared.tsig.TsigRecord.{TsigRecord}

-- What a reply holds in full: the records of its three sections behind the questions, options of
-- EDNS behind the additional records, and a signature behind all.
pub record ReplyParts : Type 0 where
  pub metadata : Metadata
  pub answers : List Record
  pub authorities : List Record
  pub additionals : List Record
  pub edns : Option Edns
  pub signature : Option TsigRecord

-- How many octets an OPT record takes, and a TSIG record.
abbrev pub opt_plain : Edns → ℕ
opt_plain edns = length (opt_octets edns)

abbrev pub tsig_plain : TsigRecord → ℕ
tsig_plain signature = length (tsig_record_octets signature)

-- The front of a list that stands in a reply from a place on: it ends early only at an item that
-- would pass the limit, even written plainly, and no item takes more than that.
abbrev pub Front : {X : Type 0} → (List ℕ → ℕ → X → ℕ → Type 0) → (X → ℕ) → List ℕ → ℕ → ℕ
    → List X → List X → ℕ → Type 0
Front At plain reply limit place [] [] end = end ≡ place
Front At plain reply limit place (x ∷ xs) [] end = (end ≡ place) × (limit < place + plain x)
Front At plain reply limit place (x ∷ xs) (k ∷ ks) end =
    (behind : ℕ) × (k ≡ x) × At reply place k behind × (behind ≤ place + plain k)
    × Front At plain reply limit behind xs ks end
Front At plain reply limit place [] (k ∷ ks) end = ⊥

-- A record of a reply whose records begin at a place: behind the first of them, one of the same
-- owner takes two octets for it, where owners are to point (RFC 1035, section 4.1.4).
pub record ReplyRecordAt (points : Bool) (first : ℕ) (reply : List ℕ) (place : ℕ) (r : Record)
    (end : ℕ) : Type 0 where
  pub there : RecordAt reply place r end
  pub owner : points ≡ true → first < place → 0 < length r.name.labels → (behind : ℕ)
      → NameAt reply first r.name behind
      → end + length (name_octets r.name) ≤ place + plain r + 2

-- How many labels the first question has, whose names are the first to which later ones may point.
abbrev pub first_labels : List Query → ℕ
first_labels [] = 0
first_labels (q ∷ qs) = length q.name.labels

-- The questions leave room for the first owner as one to which later ones point: of the 64 such
-- names one is left, and a pointer tells its place.
abbrev pub leaves_room : Asked → Bool
leaves_room asked =
    nat_lt (12 + length asked.octets) 16383 && nat_le (first_labels asked.questions) 63

-- A header with these counts, that says whether something was left out. Of the response code it has
-- the last four bits: an OPT record holds those above (RFC 6891, section 6.1.3).
abbrev pub header_of_reply : Metadata → Bool → ℕ → ℕ → ℕ → ℕ → Header
header_of_reply m truncated questions answers authorities additionals = record {
  metadata = record m {
    truncation = truncated;
    response_code = joined_code 0 (low_bits m.response_code);
  };
  counts = record {
    queries = questions;
    answers = answers;
    authorities = authorities;
    additionals = additionals;
  };
}

-- Whether a list is longer than the front that is kept of it.
abbrev pub is_cut : {X : Type 0} → List X → List X → Bool
is_cut items kept = nat_lt (length kept) (length items)

-- The fronts that are kept of a reply's lists, its options and its signature as lists of none or
-- one.
pub record Fronts : Type 0 where
  pub answers : List Record
  pub authorities : List Record
  pub additionals : List Record
  pub edns : List Edns
  pub signature : List TsigRecord

-- Something was left out.
abbrev pub is_truncated : ReplyParts → Fronts → Bool
is_truncated parts kept =
    is_cut parts.answers kept.answers || is_cut parts.authorities kept.authorities
    || ((is_cut parts.additionals kept.additionals || is_cut (option_to_list parts.edns) kept.edns)
    || is_cut (option_to_list parts.signature) kept.signature)

-- The header over so many questions and the fronts that are kept of a reply's lists: it counts
-- them, options and signature among the additional records (RFC 6891, section 6.1.1; RFC 8945,
-- section 5.1), and says that the reply is truncated exactly where one of them is cut (RFC 2181,
-- section 9; RFC 9471, section 3.1).
abbrev pub header_of_fronts : ReplyParts → ℕ → Fronts → Header
header_of_fronts parts questions kept =
    header_of_reply parts.metadata (is_truncated parts kept) questions (length kept.answers)
    (length kept.authorities)
    (length kept.additionals + length kept.edns + length kept.signature)

-- The fronts stand one behind the other, from a place on up to the end of the reply.
pub record FrontsAt (points : Bool) (reply : List ℕ) (limit place : ℕ) (parts : ReplyParts)
    (kept : Fronts) : Type 0 where
  pub answers_end : ℕ
  pub authorities_end : ℕ
  pub additionals_end : ℕ
  pub edns_end : ℕ
  pub answers : Front (ReplyRecordAt points place) plain reply limit place parts.answers
      kept.answers answers_end
  pub authorities : Front (ReplyRecordAt points place) plain reply limit answers_end
      parts.authorities kept.authorities authorities_end
  pub additionals : Front (ReplyRecordAt points place) plain reply limit authorities_end
      parts.additionals kept.additionals additionals_end
  pub edns : Front OptAt opt_plain reply limit additionals_end (option_to_list parts.edns) kept.edns
      edns_end
  pub signature : Front TsigRecordAt tsig_plain reply limit edns_end
      (option_to_list parts.signature) kept.signature (length reply)

-- The reply in which the question section fits: its octets as sent, which are the same questions
-- unless a pointer of theirs goes into the message's header; a front of each list; and nothing
-- behind.
pub record IsWholeReply (message reply : List ℕ) (parts : ReplyParts) (asked : Asked) (limit : ℕ) :
    Type 0 where
  pub questions_end : ℕ
  pub kept : Fronts
  pub question_octets : Stands reply 12 asked.octets questions_end
  pub questions : (there : Entries (QuestionAt message) 12 asked.questions questions_end)
      → AvoidsHeader message 12 asked.questions questions_end there
      → QuestionsAt reply 12 (length asked.questions) asked.questions questions_end
  pub fronts : FrontsAt (leaves_room asked) reply limit questions_end parts kept
  pub header : header_of reply ≡ header_of_fronts parts (length asked.questions) kept

-- What is left to say where not even the questions fit.
abbrev pub bare_failure : ℕ → Metadata
bare_failure id = record {
  id = id;
  message_type = messages.Response;
  op_code = operations.Query;
  authoritative = false;
  truncation = false;
  recursion_desired = false;
  recursion_available = false;
  authentic_data = false;
  checking_disabled = false;
  response_code = responses.ServFail;
}

-- A reply of these parts, within the limit, to a message of these questions and this identifier.
pub record IsReply (message reply : List ℕ) (parts : ReplyParts) (asked : Asked) (id limit : ℕ) :
    Type 0 where
  pub within : length reply ≤ limit
  pub reserved : reserved_bit reply ≡ false
  pub whole : 12 + length asked.octets ≤ limit → IsWholeReply message reply parts asked limit
  pub bare : limit < 12 + length asked.octets
      → (length reply ≡ 12) × (header_of reply ≡ header_of_reply (bare_failure id) false 0 0 0 0)
