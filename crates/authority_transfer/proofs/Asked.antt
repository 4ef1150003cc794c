-- A reply to a query is no update.
use Rattle.std.proofs.Common.{◌≡◌, ◌∙◌, refl, sym, ap, ℕ, List}
use Rattle.std.specs.Prelude.{Bool, true, false, ◌&&◌, Option, Some, None, cond, not}
use Rattle.zsv_message.specs.Messages.{IsMessage, Message, is_update, joined_metadata}
use Rattle.zsv_message.specs.zst_edns.declared.edns.Edns.{Edns}
use Rattle.zsv_message.specs.zsv_parts.Headers.{header_of, same_op_code}
use Rattle.zsv_message.specs.zsv_parts.declared.header.Metadata.{Metadata}
use Rattle.zsv_message.specs.zsv_parts.declared.header.OpCode.{OpCode}
use Rattle.zsv_message.specs.zsv_parts.declared.header.OpCode.TheVariants as operations
use Rattle.zsv_message.specs.zsv_parts.zst_codes.ResponseCode.{same_response_code}
use Rattle.zsv_message.specs.zsv_parts.zst_codes.declared.response_code.ResponseCode.TheVariants as codes
use Rattle.authority_transfer.specs.Transfers.{frame_fault, is_answer, is_response, is_signed, reply_fault, whole_fault}
use Rattle.authority_transfer.specs.declared.error.TransferError.{TransferError}
use Rattle.authority_transfer.specs.declared.error.TransferError.TheVariants as errors
use Rattle.zsv_message.specs.zst_record.dnw_name.DomainName.{DomainName}

no_update : (op : OpCode) → same_op_code op operations.Query ≡ true → is_update op ≡ false
no_update operations.Update e = absurd (cc e)
no_update other e = refl

and_parts_of : (a b c : Bool) → (a && (b && c)) ≡ true → b ≡ true
and_parts_of true true c e = refl
and_parts_of true false c e = absurd (cc e)
and_parts_of false b c e = absurd (cc e)

same_operation : (h : Metadata) (o : Option Edns) → (joined_metadata h o).op_code ≡ h.op_code
same_operation h None = refl
same_operation h (Some edns) = refl

pub asks : (octets : List ℕ) (m : Message) → IsMessage octets m → is_answer m.metadata ≡ true → is_update (header_of octets).metadata.op_code ≡ false
asks octets m is answer =
    let query = and_parts_of (is_response m.metadata.message_type) (same_op_code m.metadata.op_code operations.Query) (same_response_code m.metadata.response_code codes.NoError) answer in
    let same : m.metadata.op_code ≡ (header_of octets).metadata.op_code = ap (λ (x : Metadata). x.op_code) is.metadata ∙ same_operation (header_of octets).metadata m.edns in
    no_update (header_of octets).metadata.op_code (ap (λ (op : OpCode). same_op_code op operations.Query) (sym same) ∙ query)

-- A reply without a fault.
answer_of : (a b c : Bool) → cond (not a) (Some errors.NotAReply) (cond b (Some errors.Truncated) (cond c (Some errors.Signed) None)) ≡ None → a ≡ true
answer_of true b c e = refl
answer_of false b c e = absurd (cc e)

pub said : (origin : DomainName) (m : Message) → whole_fault origin m ≡ None → reply_fault m ≡ None
said origin m e = by (reply_fault m) refl e
  where
    by : (o : Option TransferError) → reply_fault m ≡ o → frame_fault origin m.answers o ≡ None → reply_fault m ≡ None
    by None same h = same
    by (Some x) same h = absurd (cc h)

pub faultless : (m : Message) → reply_fault m ≡ None → is_answer m.metadata ≡ true
faultless m e = answer_of (is_answer m.metadata) m.metadata.truncation (is_signed m) e
