-- Transfers, served: the reply to a question for one, and what it is signed with.
use Rattle.std.proofs.Common.{◌≡◌, ◌∙◌, ℕ, Bool, true, false, not, List, [], ◌∷◌, ap, refl, subst, sym}
use Rattle.std.proofs.lemmas.Bool.{and_parts, true≢false}
use Rattle.std.specs.Prelude.{◌&&◌, Option, Some, None, cond, option_map}
use Rattle.zsv_answer.specs.zst_request.Updating.{Asked, SigningContext}
use Rattle.zsv_answer.specs.zst_request.Views.{View}
use Rattle.zsv_answer.specs.zst_request.dnw_codes.declared.record_type.RecordType.TheVariants.{AXFR}
use Rattle.zsv_answer.specs.zst_request.dnw_codes.RecordType.{same_record_type}
use Rattle.zsv_answer.specs.zst_request.dnw_name.DomainName.{DomainName}
use Rattle.zsv_answer.specs.zst_request.zst_codes.declared.response_code.ResponseCode.TheVariants as responses
use Rattle.zsv_answer.specs.zsv_reply.Replies.{ReplyParts}
use Rattle.zsv_answer.specs.zsv_reply.Writing.{AllReadBack, error_parts, with_edns}
use Rattle.zsv_answer.specs.zsv_reply.zsv_message.Messages.{Message}
use Rattle.zsv_answer.specs.zsv_reply.zsv_message.zst_edns.declared.edns.Edns.{Edns}
use Rattle.zsv_answer.specs.zsv_reply.zsv_message.zsv_parts.SignatureRecords.{TsigReadsBack}
use Rattle.zsv_answer.specs.zsv_reply.zsv_message.zsv_parts.declared.header.Metadata.{Metadata}
use Rattle.zsv_answer.specs.zsv_reply.zsv_message.zsv_parts.declared.header.MessageType.{MessageType}
use Rattle.zsv_answer.specs.zsv_reply.zsv_message.zsv_parts.declared.header.MessageType.TheVariants as messages
use Rattle.zsv_answer.specs.zsv_reply.zsv_message.zsv_parts.declared.header.OpCode.{OpCode}
use Rattle.zsv_answer.specs.zsv_reply.zsv_message.zsv_parts.declared.header.OpCode.TheVariants as operations
use Rattle.zsv_answer.specs.zsv_reply.zsv_message.zsv_parts.declared.question.Query.{Query}
use Rattle.zsv_answer.specs.zsv_reply.zsv_message.zsv_parts.declared.tsig.TsigRecord.{TsigRecord}
use Rattle.zsv_catalog.specs.Catalogs.{KindParts, OperationParts, PlainParts, QueryParts, QuestionParts, asks_for_dnssec, entry_context, entry_parts, is_kind_of_query, is_query, is_query_type, is_served_query, question_context, served_transfer, transfer_question}
use Rattle.zsv_update.specs.Keys.{Signature, signature_of}
use Rattle.zsv_update.specs.Options.{has_other_version}
use Rattle.zsv_update.specs.Signing.{HasSignature}
use Rattle.zsv_update.specs.zsv_chains.Chains.{entry_for}

-- ---- which messages are served as queries for a transfer
is_false : (b : Bool) → not b ≡ true → b ≡ false
is_false true e = absurd (true≢false (sym e))
is_false false e = refl

kind_of : (kind : MessageType) → is_query_type kind ≡ true → kind ≡ messages.Query
kind_of messages.Query e = refl
kind_of messages.Response e = absurd (true≢false (sym e))

operation_of : (operation : OpCode) → is_query operation ≡ true → operation ≡ operations.Query
operation_of operations.Query e = refl
operation_of other e = absurd (true≢false (sym e))

-- The question of a query for a transfer is its only one.
pub record AsksTransfer (qs : List Query) (q : Query) : Type 0 where
  pub one : qs ≡ q ∷ []
  pub kind : same_record_type q.query_type AXFR ≡ true

pub asks_transfer : (qs : List Query) (q : Query) → transfer_question qs ≡ Some q → AsksTransfer qs q
asks_transfer [] q e = let h : ⊥ = cc in absurd h
asks_transfer (p ∷ []) q e = by (same_record_type p.query_type AXFR) refl e
  where
    by : (b : Bool) → same_record_type p.query_type AXFR ≡ b → cond b (Some p) None ≡ Some q → AsksTransfer (p ∷ []) q
    by true t is =
        let same : p ≡ q = cc in
        record { one = ap (λ (x : Query). x ∷ []) same; kind = subst (λ (x : Query). same_record_type x.query_type AXFR ≡ true) same t }
    by false t is = let h : ⊥ = cc in absurd h
asks_transfer (p ∷ r ∷ qs) q e = let h : ⊥ = cc in absurd h

-- A query of one question that is none for a transfer.
pub asks_none : (q : Query) → transfer_question (q ∷ []) ≡ None → same_record_type q.query_type AXFR ≡ false
asks_none q none = by (same_record_type q.query_type AXFR) refl none
  where
    by : (b : Bool) → same_record_type q.query_type AXFR ≡ b → cond b (Some q) None ≡ None → b ≡ false
    by true t is = let h : ⊥ = cc in absurd h
    by false t is = refl

pub record ServesTransfer (request : Message) (q : Query) : Type 0 where
  pub version : has_other_version request.edns ≡ false
  pub kind : request.metadata.message_type ≡ messages.Query
  pub operation : request.metadata.op_code ≡ operations.Query
  pub question : AsksTransfer request.asked.questions q

pub serves_transfer : (request : Message) (q : Query) → served_transfer request ≡ Some q → ServesTransfer request q
serves_transfer request q e = by (is_served_query request) refl e
  where
    by : (b : Bool) → is_served_query request ≡ b → cond b (transfer_question request.asked.questions) None ≡ Some q → ServesTransfer request q
    by true served is =
        let (version, rest) = and_parts (not (has_other_version request.edns)) (is_kind_of_query request) served in
        let (kind, operation) = and_parts (is_query_type request.metadata.message_type) (is_query request.metadata.op_code) rest in
        record {
          version = is_false (has_other_version request.edns) version;
          kind = kind_of request.metadata.message_type kind;
          operation = operation_of request.metadata.op_code operation;
          question = asks_transfer request.asked.questions q is;
        }
    by false served is = let h : ⊥ = cc in absurd h

-- A message that is served as a query, and as none for a transfer.
pub no_question : (request : Message) → has_other_version request.edns ≡ false → served_transfer request ≡ None → request.metadata.message_type ≡ messages.Query → request.metadata.op_code ≡ operations.Query
    → transfer_question request.asked.questions ≡ None
no_question request version none kind operation =
    let served : is_kind_of_query request ≡ true = ap (λ (k : MessageType). is_query_type k && is_query request.metadata.op_code) kind ∙ ap is_query operation in
    subst (λ (b : Bool). cond b (transfer_question request.asked.questions) None ≡ None)
    (ap (λ (b : Bool). not b && is_kind_of_query request) version ∙ served) none

-- ---- the reply to one
no_entry : {X : Type 0} (o : Option (DomainName × X)) → option_map (λ entry. entry.1) o ≡ None → o ≡ None
no_entry None e = refl
no_entry (Some entry) e = let h : ⊥ = cc in absurd h

module _ (chains : List (DomainName × List View)) (m : Metadata) (dnssec_ok : Bool) where
  question_parts : (asks : DomainName → Asked) (q : Query) (parts : ReplyParts) → same_record_type q.query_type AXFR ≡ true → parts ≡ entry_parts m dnssec_ok asks (entry_for chains q.name) → QuestionParts chains m dnssec_ok asks q parts
  question_parts asks q parts kind is = record {
    no_chain = λ none. is ∙ ap (entry_parts m dnssec_ok asks) (no_entry (entry_for chains q.name) none);
    transfer = λ _. is;
    looked_up = λ chain there other. absurd (true≢false (sym kind ∙ other));
  }

  pub transfer_query_parts : (asks : Query → DomainName → Asked) (qs : List Query) (q : Query) (parts : ReplyParts) → AsksTransfer qs q → parts ≡ entry_parts m dnssec_ok (asks q) (entry_for chains q.name) → QueryParts chains m dnssec_ok asks qs parts
  transfer_query_parts asks qs q parts asked is = subst (λ (l : List Query). QueryParts chains m dnssec_ok asks l parts) (sym asked.one) (question_parts (asks q) q parts asked.kind is)

pub transfer_plain_parts : (chains : List (DomainName × List View)) (asks : Query → DomainName → Asked) (request : Message) (q : Query) (parts : ReplyParts) → ServesTransfer request q
    → parts ≡ entry_parts request.metadata (asks_for_dnssec request.edns) (asks q) (entry_for chains q.name) → PlainParts chains asks request parts
transfer_plain_parts chains asks request q parts serves is =
    let m = request.metadata in
    let d = asks_for_dnssec request.edns in
    let query = transfer_query_parts chains m d asks request.asked.questions q parts serves.question is in
    let operation = subst (λ (o : OpCode). OperationParts chains m d asks o request.asked.questions parts) (sym serves.operation) query in
    record {
      other_version = λ e. absurd (true≢false (sym e ∙ serves.version));
      answered = λ _. subst (λ (k : MessageType). KindParts chains m d asks k request.asked.questions parts) (sym serves.kind) operation;
    }

-- What it is signed with.
pub transfer_contexts : (chains : List (DomainName × List View)) (asks : Query → DomainName → Asked) (moment : ℕ) (q : Query) (o : Option Query) (context : Option SigningContext) → o ≡ Some q
    → context ≡ entry_context (asks q) moment (entry_for chains q.name) → context ≡ question_context chains asks moment o
transfer_contexts chains asks moment q o context some is = is ∙ sym (ap (question_context chains asks moment) some)

-- ---- signing
abbrev pub signed_parts : Option Edns → ReplyParts → Option TsigRecord → ReplyParts
signed_parts edns plain signature = record (with_edns edns plain) { signature = signature }

pub signed_back : (edns : Option Edns) (plain : ReplyParts) (tsig : TsigRecord) → TsigReadsBack tsig → AllReadBack (with_edns edns plain) → AllReadBack (signed_parts edns plain (Some tsig))
signed_back edns plain tsig signed back =
    record { answers = back.answers; authorities = back.authorities; additionals = back.additionals; edns = back.edns; signature = (signed, tt) }

pub failed_back : (edns : Option Edns) (plain : ReplyParts) (m : Metadata) → AllReadBack (with_edns edns plain) → AllReadBack (with_edns edns (error_parts m responses.ServFail))
failed_back edns plain m back = record { answers = tt; authorities = tt; additionals = tt; edns = back.edns; signature = tt }

pub has_signature : (edns : Option Edns) (plain failure : ReplyParts) (given : Option Signature) (tsig : TsigRecord) → given ≡ Some (signature_of tsig) → TsigReadsBack tsig
    → HasSignature given (with_edns edns plain) failure (signed_parts edns plain (Some tsig))
has_signature edns plain failure given tsig is back =
    subst (λ (s : Option Signature). HasSignature s (with_edns edns plain) failure (signed_parts edns plain (Some tsig))) (sym is) (tsig, refl, back, refl)

pub has_none : (plain failure : ReplyParts) (given : Option Signature) → given ≡ None → HasSignature given plain failure failure
has_none plain failure given is = subst (λ (s : Option Signature). HasSignature s plain failure failure) (sym is) refl

-- ---- whether signatures are asked for
abbrev pub flag_of : Option Edns → Bool
flag_of None = false
flag_of (Some edns) = edns.flags.dnssec_ok

pub same_flag : (edns : Option Edns) → flag_of edns ≡ asks_for_dnssec edns
same_flag None = refl
same_flag (Some edns) = refl
