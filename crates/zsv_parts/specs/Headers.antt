-- The header of a message: RFC 1035, section 4.1.1; RFC 4035, section 3.2 for AD and CD.
use Rattle.std.specs.Prelude.{◌≡◌, ℕ, ◌+◌, ◌/◌, ◌%◌, ◌^◌, ◌*◌, ◌<◌, ◌≤◌, ◌==◌, ◌++◌, Bool, true, false, List, ◌∷◌, get_or, drop, length, if◌then◌else◌}
use Rattle.std.specs.Ordering.{on}
use Rattle.zsv_parts.specs.declared.header.MessageType.{MessageType}
use Rattle.zsv_parts.specs.declared.header.MessageType.TheVariants as types
use Rattle.zsv_parts.specs.declared.header.OpCode.{OpCode}
use Rattle.zsv_parts.specs.declared.header.OpCode.TheVariants as operations
use Rattle.zsv_parts.specs.declared.header.Metadata.{Metadata}
use Rattle.zsv_parts.specs.declared.header.HeaderCounts.{HeaderCounts}
use Rattle.zsv_parts.specs.declared.header.Header.{Header}
use Rattle.dnw_encoder.specs.dnw_decoder.Octets.{number_16, octets_16}
use Rattle.zst_codes.specs.declared.response_code.ResponseCode.TheVariants as responses
use Rattle.zst_codes.specs.ResponseCode.{low_bits, response_code_number, response_code_of}

-- The number of an operation, and the operation of a number.
abbrev pub op_code_number : OpCode → ℕ
op_code_number operations.Query = 0
op_code_number operations.Status = 2
op_code_number operations.Notify = 4
op_code_number operations.Update = 5
op_code_number (operations.Unknown n) = n

abbrev pub op_code_of : ℕ → OpCode
op_code_of n =
    if n == 0 then operations.Query else if n == 2 then operations.Status else if n
    == 4 then operations.Notify
    else if n == 5 then operations.Update else operations.Unknown n

-- An opcode that four bits hold, as each that is read.
pub record FitsOpCode (m : Metadata) : Type 0 where
  pub op_code : op_code_of (op_code_number m.op_code) ≡ m.op_code
  pub small : op_code_number m.op_code < 16

-- Two operations are the same where their numbers are.
abbrev pub same_op_code : OpCode → OpCode → Bool
same_op_code = on op_code_number ◌==◌

-- Whether the bit of weight 2 ^ k is set.
abbrev pub bit : ℕ → ℕ → Bool
bit octet k = octet / 2 ^ k % 2 == 1

-- The bit behind RA, which nobody reads and which is written zero (RFC 1035 4.1.1: Z).
abbrev pub reserved_bit : List ℕ → Bool
reserved_bit message = bit (get_or message 3 0) 6

-- What the third and the fourth octet say, behind the identifier: QR, four bits of operation, AA,
-- TC, RD; RA, a bit that nobody reads, AD, CD, four bits of response.
abbrev pub metadata_of : ℕ → ℕ → ℕ → Metadata
metadata_of id high low = record {
  id = id;
  message_type = if bit high 7 then types.Response else types.Query;
  op_code = op_code_of (high / 8 % 16);
  authoritative = bit high 2;
  truncation = bit high 1;
  recursion_desired = bit high 0;
  recursion_available = bit low 7;
  authentic_data = bit low 5;
  checking_disabled = bit low 4;
  response_code = response_code_of (low % 16);
}

-- No flag is set.
abbrev pub plain_metadata : ℕ → MessageType → OpCode → Metadata
plain_metadata id message_type op_code = record {
  id = id;
  message_type = message_type;
  op_code = op_code;
  authoritative = false;
  truncation = false;
  recursion_desired = false;
  recursion_available = false;
  authentic_data = false;
  checking_disabled = false;
  response_code = responses.NoError;
}

-- A reply repeats the identifier, the operation, RD and CD.
abbrev pub response_metadata : Metadata → Metadata
response_metadata request =
    record (plain_metadata request.id types.Response request.op_code) {
      recursion_desired = request.recursion_desired;
      checking_disabled = request.checking_disabled;
    }

-- How many entries each section has.
abbrev pub counts_of : List ℕ → HeaderCounts
counts_of message = record {
  queries = number_16 message 4;
  answers = number_16 message 6;
  authorities = number_16 message 8;
  additionals = number_16 message 10;
}

-- The header that the first twelve octets hold.
abbrev pub header_of : List ℕ → Header
header_of message = record {
  metadata = metadata_of (number_16 message 0) (get_or message 2 0) (get_or message 3 0);
  counts = counts_of message;
}

-- A header at a place.
pub record HeaderAt (message : List ℕ) (place : ℕ) (header : Header) (end : ℕ) : Type 0 where
  pub means : header ≡ header_of (drop place message)
  pub behind : end ≡ place + 12
  pub within : end ≤ length message

abbrev pub flag : Bool → ℕ
flag b = if b then 1 else 0

abbrev pub is_response : MessageType → Bool
is_response types.Query = false
is_response types.Response = true

-- The third and the fourth octet, with the bit that nobody reads zero. Of operation and response
-- four bits stand there.
abbrev pub high_octet : Metadata → ℕ
high_octet m =
    128 * flag (is_response m.message_type) + 8 * (op_code_number m.op_code % 16) + 4
    * flag m.authoritative
    + 2 * flag m.truncation + flag m.recursion_desired

abbrev pub low_octet : Metadata → ℕ
low_octet m =
    128 * flag m.recursion_available + 32 * flag m.authentic_data + 16 * flag m.checking_disabled
    + low_bits m.response_code

-- The twelve octets of a header.
abbrev pub header_octets : Header → List ℕ
header_octets h =
    octets_16 h.metadata.id
    ++ high_octet h.metadata ∷ low_octet h.metadata ∷ octets_16 h.counts.queries
    ++ octets_16 h.counts.answers ++ octets_16 h.counts.authorities
    ++ octets_16 h.counts.additionals

-- An operation and a response that four bits hold.
pub record FitsHeader (m : Metadata) : Type 0 where
  pub op_code : op_code_of (op_code_number m.op_code) ≡ m.op_code
  pub small_op_code : op_code_number m.op_code < 16
  pub response_code : response_code_of (response_code_number m.response_code) ≡ m.response_code
  pub small_response_code : response_code_number m.response_code < 16
