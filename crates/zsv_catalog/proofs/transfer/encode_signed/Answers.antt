use Rattle.std.proofs.Common.{◌≡◌, ◌∙◌, ℕ, List, Option, Some, ap, refl, subst, sym}
use Rattle.std.proofs.lemmas.Result.{IfOk-weaker}
use Rattle.std.specs.Prelude.{IfSome, option_copied, option_map}
use Rattle.zsv_answer.specs.Transferring.{response_parts}
use Rattle.zsv_answer.specs.zst_request.Requested.{context_of}
use Rattle.zsv_answer.specs.zst_request.declared.request.TSigResponseContext.{TSigResponseContext}
use Rattle.zsv_answer.specs.zst_request.zst_codes.declared.response_code.ResponseCode.TheVariants as responses
use Rattle.zsv_answer.specs.zsv_reply.Writing.{SendsParts, error_parts, with_edns}
use Rattle.zsv_answer.specs.zsv_reply.zsv_message.zsv_parts.Questions.{Asked}
use Rattle.zsv_answer.specs.zsv_reply.zsv_message.zsv_parts.SignatureRecords.{TsigReadsBack}
use Rattle.zsv_answer.specs.zsv_reply.zsv_message.zsv_parts.declared.tsig.TsigRecord.{TsigRecord}
use Rattle.zsv_update.specs.Keys.{signature_of}
use Rattle.zsv_update.specs.Signing.{IsSignedOver, SignsParts}
use Rattle.zsv_catalog.proofs.Transferred.{has_signature, signed_back, signed_parts}
use Rattle.zsv_catalog.proofs.transfer.encode_signed.Goals as goal

pub returns-in_default : goal.returns-in_default
returns-in_default g c =
    let keys = g.S.TsigSuite.keys c.args.suite.now in
    let request = c.args.message.now in
    let edns = option_copied c.args.edns in
    let plain = with_edns edns (response_parts c.args.response.now) in
    let failure = with_edns edns (error_parts request.metadata responses.ServFail) in
    let signs : SignsParts keys request.asked plain failure (option_map context_of c.args.response.now.context) plain =
    subst (λ (o : Option TSigResponseContext). SignsParts keys request.asked plain failure (option_map context_of o) plain) (sym c.in_default.is) refl in
    IfOk-weaker c.encode_response.result _ _ (λ sent sends. (
      plain,
      signs,
      subst (λ (asked : Asked). SendsParts plain asked c.args.protocol sent.0 sent.1.items) c.queries-queries.ensures sends,
      λ back. back,
    )) c.encode_response.ensures

pub returns-in-Some-2 : goal.returns-in-Some-2
returns-in-Some-2 g c =
    let keys = g.S.TsigSuite.keys c.args.suite.now in
    let request = c.args.message.now in
    let edns = option_copied c.args.edns in
    let tsig = c.in-Some-2.tsig in
    let unsigned = c.in_ok-_info.unsigned.items in
    let own = response_parts c.args.response.now in
    let plain = with_edns edns own in
    let failure = with_edns edns (error_parts request.metadata responses.ServFail) in
    let parts = signed_parts edns own (Some tsig) in
    let back : TsigReadsBack tsig = subst (λ (o : Option TsigRecord). IfSome o TsigReadsBack) c.in-Some-2.is c.in_ok-tsig.ensures.back in
    let is : keys.signature (context_of c.in-Some.context) unsigned ≡ Some (signature_of tsig) =
    subst (λ (octets : List ℕ). keys.signature (context_of c.in-Some.context) octets ≡ Some (signature_of tsig)) c.deref.ensures.value
    (c.in_ok-tsig.ensures.signed ∙ ap (option_map signature_of) c.in-Some-2.is) in
    let over : IsSignedOver plain request.asked c.in_ok-_info._info unsigned =
    subst (λ (asked : Asked). IsSignedOver plain asked c.in_ok-_info._info unsigned) c.queries-queries.ensures
    (record { within = c.in_ok-_info.ensures.within; whole = c.in_ok-_info.ensures.stands }) in
    let signs : SignsParts keys request.asked plain failure (option_map context_of c.args.response.now.context) parts =
    subst (λ (o : Option TSigResponseContext). SignsParts keys request.asked plain failure (option_map context_of o) parts) (sym c.in-Some.is)
    (c.in_ok-_info._info, unsigned, over, has_signature edns own failure (keys.signature (context_of c.in-Some.context) unsigned) tsig is back) in
    IfOk-weaker c.encode_response-in-Some-2.result _ _ (λ sent sends. (
      parts,
      signs,
      subst (λ (asked : Asked). SendsParts parts asked c.args.protocol sent.0 sent.1.items) c.queries-queries.ensures sends,
      λ all. signed_back edns own tsig back all,
    )) c.encode_response-in-Some-2.ensures
