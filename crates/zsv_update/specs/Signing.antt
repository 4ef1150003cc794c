-- Signed replies: RFC 8945, section 5.3.
use Rattle.std.specs.Prelude.{◌≡◌, ◌≤◌, ℕ, List, length, Option, Some, None}
use Rattle.zsv_chains.specs.zst_request.Updating.{SigningContext}
use Rattle.zsv_reply.specs.Replies.{ReplyParts}
use Rattle.zsv_reply.specs.Writing.{AllReadBack, IsEncoded}
use Rattle.zsv_reply.specs.zsv_message.zsv_parts.Questions.{Asked}
use Rattle.zsv_reply.specs.zsv_message.zsv_parts.SignatureRecords.{TsigReadsBack}
use Rattle.zsv_reply.specs.zsv_message.zsv_parts.declared.header.Header.{Header}
use Rattle.zsv_reply.specs.zsv_message.zsv_parts.declared.tsig.TsigRecord.{TsigRecord}
use Rattle.zsv_update.specs.Keys.{Keys, Signature, signature_of}

-- These octets are the reply of these parts in at most 65,535 octets, and their header.
pub record IsSignedOver (plain : ReplyParts) (asked : Asked) (info : Header) (octets : List ℕ) :
    Type 0 where
  pub within : length octets ≤ 65535
  pub whole : AllReadBack plain → IsEncoded info octets plain asked 65535

-- The parts with this signature, which reads back; or those of the failure, where no key signs.
abbrev pub HasSignature : Option Signature → ReplyParts → ReplyParts → ReplyParts → Type 0
HasSignature None plain failure parts = parts ≡ failure
HasSignature (Some signature) plain failure parts =
    (tsig : TsigRecord) × (signature_of tsig ≡ signature) × TsigReadsBack tsig
    × (parts ≡ record plain { signature = Some tsig })

-- The parts that are sent. With a context they are signed over the octets of the unsigned reply,
-- which the limit of the transport doesn't cut.
abbrev pub SignsParts : Keys → Asked → ReplyParts → ReplyParts → Option SigningContext → ReplyParts
    → Type 0
SignsParts keys asked plain failure None parts = parts ≡ plain
SignsParts keys asked plain failure (Some context) parts =
    (info : Header) × (unsigned : List ℕ) × IsSignedOver plain asked info unsigned
    × HasSignature (keys.signature context unsigned) plain failure parts
