-- Replies with the records of a zone: what they hold, and by which answers of handlers.
use Rattle.std.proofs.Common.{◌≡◌, ◌∙◌, ◌⊎◌, inl, inr, ℕ, Bool, false, Bor, List, [], ◌∷◌, ap, refl, subst, sym}
use Rattle.std.specs.Iterator.{YieldsFirstBy}
use Rattle.std.specs.Iterator.Adapters.{once_item, once_steps}
use Rattle.std.specs.Prelude.{Option, Some, None, Result, Ok, Err, IsOkAnd, MatchOption, option_copied}
use Rattle.std.specs.declared.iter.Once.{Once}
use Rattle.zst_request.proofs.TransferCodes.{transfer_codes}
use Rattle.zst_request.specs.Handed.{TransfersView, transfer_records}
use Rattle.zst_request.specs.Transfers.{transfer_of, transfer_refused}
use Rattle.zst_request.specs.Updating.{Asked}
use Rattle.zst_request.specs.Views.{Blocked, Stored, View}
use Rattle.zst_request.specs.declared.request.TSigResponseContext.{TSigResponseContext}
use Rattle.zst_request.specs.declared.transfer.ZoneTransfer.{ZoneTransfer}
use Rattle.zst_request.specs.zst_codes.declared.lookup_error.LookupError.{LookupError}
use Rattle.zst_request.specs.zst_codes.declared.lookup_error.LookupError.TheVariants as errors
use Rattle.zst_request.specs.zst_codes.declared.response_code.ResponseCode.{ResponseCode}
use Rattle.zst_request.specs.zst_codes.declared.response_code.ResponseCode.TheVariants as codes
use Rattle.zst_request.specs.zst_handler.Zones.{Zone}
use Rattle.zsv_answer.specs.Responses.{parts_with}
use Rattle.zsv_answer.specs.Transferring.{TransfersFound, answer_parts, failure_code, transfer_parts, transferring, zone_parts}
use Rattle.zsv_reply.proofs.Lending.{lent_yielded, none_yielded}
use Rattle.zsv_reply.specs.Lending.{Holds}
use Rattle.zsv_reply.specs.Replies.{ReplyParts}
use Rattle.zsv_reply.specs.Writing.{error_parts, with_edns}
use Rattle.zsv_reply.specs.declared.message_response.MessageResponse.{MessageResponse}
use Rattle.zsv_reply.specs.zst_record.Lending.{seen}
use Rattle.zsv_reply.specs.zst_record.declared.records.Record.{Record}
use Rattle.zsv_reply.specs.zsv_message.zsv_parts.declared.header.Metadata.{Metadata}
use Rattle.zsv_reply.specs.zsv_message.zsv_parts.declared.tsig.TsigRecord.{TsigRecord}

-- ---- what a response holds
abbrev pub Transfer : Type 0
Transfer = MessageResponse (List Record) (Once (Bor Record)) (Once (Bor Record)) (Once (Bor Record))

abbrev pub HoldsTransfer : Transfer → ReplyParts → Type 0
HoldsTransfer response parts =
    Holds (YieldsFirstBy (λ lent. seen lent) (λ (rs : List Record). rs)) (λ lent. seen lent) once_steps (λ r. r.now) once_steps (λ r. r.now) once_steps (λ r. r.now) response parts

pub transfer_held : (m : Metadata) (rs : List Record) (response : Transfer) (signature : Option TsigRecord) → response.metadata ≡ m → response.answers ≡ rs → once_item response.authorities ≡ None
    → once_item response.soa ≡ None → once_item response.additionals ≡ None → option_copied response.signature ≡ signature
    → HoldsTransfer response (record (with_edns (option_copied response.edns) (parts_with m false rs [] [])) { signature = signature })
transfer_held m rs response signature header answers authorities soa additionals signed = record {
  above = [];
  behind = [];
  metadata = sym header;
  answers = lent_yielded (λ (rs : List Record). rs) response.answers rs answers;
  authorities = none_yielded (λ (r : Bor Record). r.now) response.authorities authorities;
  soa = none_yielded (λ (r : Bor Record). r.now) response.soa soa;
  section = refl;
  additionals = none_yielded (λ (r : Bor Record). r.now) response.additionals additionals;
  edns = refl;
  signature = sym signed;
}

-- ---- chains
-- A handler that has a zone to transfer decides; one that has none is passed over.
pub found_first : (view : View) (views : List View) (asked : Asked) (dnssec_ok : Bool) (moment : ℕ) (answer : Result ZoneTransfer LookupError × Option TSigResponseContext)
    → TransfersView view asked dnssec_ok moment (Some answer) → TransfersFound (transferring (view ∷ views)) asked dnssec_ok moment (Some answer)
found_first (Stored zone) views asked dnssec_ok moment answer is = is
found_first (Blocked blocklist) views asked dnssec_ok moment answer is = let h : ⊥ = cc in absurd h

pub passed_over : (view : View) (views : List View) (asked : Asked) (dnssec_ok : Bool) (moment : ℕ) → TransfersView view asked dnssec_ok moment None → transferring (view ∷ views) ≡ transferring views
passed_over (Stored zone) views asked dnssec_ok moment is = absurd is
passed_over (Blocked blocklist) views asked dnssec_ok moment is = refl

-- ---- codes
abbrev IsRepeated : Option ResponseCode → Type 0
IsRepeated refused = (code : ResponseCode) → refused ≡ Some code → failure_code (errors.ResponseCode code) ≡ code

repeated : (code : ResponseCode) → (code ≡ codes.Refused) ⊎ (code ≡ codes.NotAuth) → failure_code (errors.ResponseCode code) ≡ code
repeated code (inl is) = subst (λ (c : ResponseCode). failure_code (errors.ResponseCode c) ≡ c) (sym is) refl
repeated code (inr is) = subst (λ (c : ResponseCode). failure_code (errors.ResponseCode c) ≡ c) (sym is) refl

-- ---- the reply by a handler's answer
answered_as : (m : Metadata) (refused : Option ResponseCode) (rs : List Record) (answer : Result ZoneTransfer LookupError) → IsRepeated refused
    → MatchOption refused (IsOkAnd answer (λ transfer. transfer_records transfer ≡ rs)) (λ code. answer ≡ Err (errors.ResponseCode code)) → answer_parts m answer ≡ transfer_parts m refused rs
answered_as m None rs (Ok transfer) repeats is = ap (transfer_parts m None) is
answered_as m None rs (Err why) repeats is = absurd is
answered_as m (Some code) rs answer repeats is = ap (answer_parts m) is ∙ ap (error_parts m) (repeats code refl)

pub found_parts : (m : Metadata) (dnssec_ok : Bool) (asked : Asked) (moment : ℕ) (zone : Option Zone) (answer : Result ZoneTransfer LookupError × Option TSigResponseContext)
    → TransfersFound zone asked dnssec_ok moment (Some answer) → answer_parts m answer.0 ≡ zone_parts m dnssec_ok asked zone
found_parts m dnssec_ok asked moment None answer is = let h : ⊥ = cc in absurd h
found_parts m dnssec_ok asked moment (Some zone) answer is = answered_as m (transfer_refused zone asked) (transfer_of zone dnssec_ok) answer.0 (λ code e. repeated code (transfer_codes zone asked code e)) is.0
