use Rattle.std.proofs.Common.{◌≡◌, refl, subst}
use Rattle.std.proofs.lemmas.Result.{IfOk-weaker}
use Rattle.std.specs.Prelude.{Option, option_copied, option_map}
use Rattle.zsv_answer.specs.Transferring.{response_parts}
use Rattle.zsv_answer.specs.zst_request.Requested.{context_of}
use Rattle.zsv_answer.specs.zst_request.Updating.{SigningContext}
use Rattle.zsv_answer.specs.zsv_reply.Writing.{with_edns}
use Rattle.zsv_answer.specs.zsv_reply.zsv_message.zst_edns.declared.edns.Edns.{Edns}
use Rattle.zsv_answer.specs.zsv_reply.zsv_message.zsv_parts.Questions.{IsSection}
use Rattle.zsv_catalog.specs.Catalogs.{PartsOf, SendsSigned, asked_of_transfer, question_context, served_transfer}
use Rattle.zsv_update.specs.Options.{AnswersEdns, nsid_for}
use Rattle.zsv_update.specs.Updates.{Given, only}
use Rattle.zsv_update.specs.zsv_chains.Chains.{views_of}
use Rattle.zsv_catalog.proofs.PartsBack.{parts_back}
use Rattle.zsv_catalog.proofs.Transferred.{serves_transfer, transfer_contexts, transfer_plain_parts}
use Rattle.zsv_catalog.proofs.transfer.transfer_reply.Goals as goal

pub returns : goal.returns
returns g c =
    let request = c.args.message.now in
    let chains = views_of g.H.ZoneHandler.view c.args.chains.now.chains in
    let nsid = option_copied c.args.nsid in
    let keys = g.S.TsigSuite.keys c.args.suite.now in
    let r = c.args.received in
    let q = c.args.question.now in
    let asks = asked_of_transfer keys request r.source r.octets.now r.now in
    let section = subst IsSection c.queries.ensures c.queries-questions.ensures.section in
    let plain = response_parts c.in_ok-response.response in
    let edns = c.in_ok-edns.edns in
    let answers = subst (λ (asked : Option Edns). AnswersEdns asked (nsid_for asked nsid) plain.metadata.response_code edns) c.edns.ensures c.in_ok-edns.ensures.answers in
    let parts = with_edns edns plain in
    let gives : PartsOf chains nsid asks request parts = record {
      plain = plain;
      gives = transfer_plain_parts chains asks request q plain (serves_transfer request q c.requires) c.in_ok-response.ensures.parts;
      edns = answers;
      whole = refl;
    } in
    let context = question_context chains asks r.now (served_transfer request) in
    let given : Given = record (only chains parts) { context = context } in
    let signed : option_map context_of c.in_ok-response.response.context ≡ context = transfer_contexts chains asks r.now q (served_transfer request) _ c.requires c.in_ok-response.ensures.context in
    IfOk-weaker c.encode_signed.result _ _ (λ sent told.
    let options = subst (λ (o : Option Edns). SendsSigned keys request plain (option_map context_of c.in_ok-response.response.context) o r.protocol sent.0 sent.1.items) c.as_ref.ensures.value told in
    let (sends, signs, stands, kept) = subst (λ (o : Option SigningContext). SendsSigned keys request plain o edns r.protocol sent.0 sent.1.items) signed options in
    (given, (parts, gives, refl), sends, signs, stands, λ back. kept (parts_back chains nsid asks request parts section back c.nsid_octets-octets.ensures gives))) c.encode_signed.ensures
