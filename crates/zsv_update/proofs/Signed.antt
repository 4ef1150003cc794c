-- Replies without records, signed or not.
use Rattle.std.proofs.Common.{◌≡◌, Bor, refl, subst, sym}
use Rattle.std.specs.Iterator.Adapters.{once_steps}
use Rattle.std.specs.List.{AllByRecursion}
use Rattle.std.specs.Prelude.{Option, Some, None, Result, Ok, Err, IfOk, IfSome, option_copied, option_to_list}
use Rattle.std.specs.declared.iter.Once.{Once}
use Rattle.zsv_reply.proofs.Lending.{empty_held}
use Rattle.zsv_reply.specs.Building.{BuildsEmpty}
use Rattle.zsv_reply.specs.Lending.{Holds}
use Rattle.zsv_reply.specs.Replies.{ReplyParts}
use Rattle.zsv_reply.specs.Writing.{AllReadBack, bare_parts, with_edns}
use Rattle.zsv_reply.specs.declared.message_response.MessageResponse.{MessageResponse}
use Rattle.zsv_reply.specs.zsv_message.zst_edns.Writing.{EdnsReadsBack}
use Rattle.zsv_reply.specs.zsv_message.zst_edns.declared.edns.Edns.{Edns}
use Rattle.zsv_reply.specs.zst_record.declared.records.Record.{Record}
use Rattle.zsv_reply.specs.zsv_message.zsv_parts.Questions.{Asked}
use Rattle.zsv_reply.specs.zsv_message.zsv_parts.SignatureRecords.{TsigReadsBack}
use Rattle.zsv_reply.specs.zsv_message.zsv_parts.declared.header.Metadata.{Metadata}
use Rattle.zsv_reply.specs.zsv_message.zsv_parts.declared.tsig.TsigRecord.{TsigRecord}
use Rattle.zsv_update.specs.Keys.{Signature, signature_of}
use Rattle.zsv_update.specs.Signing.{HasSignature}

-- Two clauses on a returned value, put together.
pub both_ok : {X E : Type 0} (P Q R : X → Type 0) (r : Result X E) → ((x : X) → P x → Q x → R x) → IfOk r P → IfOk r Q → IfOk r R
both_ok P Q R (Ok x) joined p q = joined x p q
both_ok P Q R (Err e) joined p q = tt

-- ---- what a response without records holds
abbrev pub Empties : Type 0
Empties = MessageResponse (Once (Bor Record)) (Once (Bor Record)) (Once (Bor Record)) (Once (Bor Record))

abbrev pub HoldsEmpty : Empties → ReplyParts → Type 0
HoldsEmpty response parts = Holds once_steps (λ r. r.now) once_steps (λ r. r.now) once_steps (λ r. r.now) once_steps (λ r. r.now) response parts

abbrev pub signed_parts : Metadata → Option Edns → Option TsigRecord → ReplyParts
signed_parts m edns signature = record (with_edns edns (bare_parts m)) { signature = signature }

pub unsigned_held : (m : Metadata) (queries : Bor Asked) (edns : Option (Bor Edns)) (response : Empties) → BuildsEmpty m queries edns response → HoldsEmpty response (signed_parts m (option_copied edns) None)
unsigned_held m queries edns response made = empty_held m queries edns response made

pub signed_held : (m : Metadata) (queries : Bor Asked) (edns : Option (Bor Edns)) (response signed : Empties) (signature : Bor TsigRecord) → BuildsEmpty m queries edns response
    → signed ≡ record response { signature = Some signature } → HoldsEmpty signed (signed_parts m (option_copied edns) (Some signature.now))
signed_held m queries edns response signed signature made is =
    let held = empty_held m queries edns response made in
    subst (λ (r : Empties). HoldsEmpty r (signed_parts m (option_copied edns) (Some signature.now))) (sym is) (record {
      above = held.above;
      behind = held.behind;
      metadata = held.metadata;
      answers = held.answers;
      authorities = held.authorities;
      soa = held.soa;
      section = held.section;
      additionals = held.additionals;
      edns = held.edns;
      signature = refl;
    })

-- ---- what reads back
pub signed_back : (m : Metadata) (edns : Option Edns) (signature : Option TsigRecord) → IfSome signature TsigReadsBack → AllByRecursion EdnsReadsBack (option_to_list edns) → AllReadBack (signed_parts m edns signature)
signed_back m edns None signed back = record { answers = tt; authorities = tt; additionals = tt; edns = back; signature = tt }
signed_back m edns (Some tsig) signed back = record { answers = tt; authorities = tt; additionals = tt; edns = back; signature = (signed, tt) }

-- ---- what the keys give
pub has_signature : (m failure : Metadata) (edns : Option Edns) (given : Option Signature) (tsig : TsigRecord) → given ≡ Some (signature_of tsig) → TsigReadsBack tsig
    → HasSignature given (with_edns edns (bare_parts m)) (with_edns edns (bare_parts failure)) (signed_parts m edns (Some tsig))
has_signature m failure edns given tsig is back =
    subst (λ (s : Option Signature). HasSignature s (with_edns edns (bare_parts m)) (with_edns edns (bare_parts failure)) (signed_parts m edns (Some tsig))) (sym is) (tsig, refl, back, refl)

pub has_none : (m failure : Metadata) (edns : Option Edns) (given : Option Signature) → given ≡ None
    → HasSignature given (with_edns edns (bare_parts m)) (with_edns edns (bare_parts failure)) (signed_parts failure edns None)
has_none m failure edns given is =
    subst (λ (s : Option Signature). HasSignature s (with_edns edns (bare_parts m)) (with_edns edns (bare_parts failure)) (signed_parts failure edns None)) (sym is) refl
