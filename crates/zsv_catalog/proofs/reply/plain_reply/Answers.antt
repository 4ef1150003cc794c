use Rattle.std.proofs.Common.{◌≡◌, ◌∙◌, ap, refl, subst, sym}
use Rattle.std.proofs.lemmas.Result.{IfOk-weaker}
use Rattle.std.specs.Prelude.{Option, None, option_copied}
use Rattle.zsv_answer.specs.Responses.{parts_of}
use Rattle.zsv_answer.specs.zst_request.Updating.{SigningContext}
use Rattle.zsv_answer.specs.zsv_reply.Writing.{with_edns}
use Rattle.zsv_answer.specs.zsv_reply.zsv_message.zsv_parts.Questions.{IsSection}
use Rattle.zsv_catalog.specs.Catalogs.{PartsOf, asked_of_transfer, failure_of, question_context, served_transfer}
use Rattle.zsv_update.specs.Signing.{SignsParts}
use Rattle.zsv_update.specs.Updates.{Given, only}
use Rattle.zsv_update.specs.zsv_chains.Chains.{views_of}
use Rattle.zsv_catalog.proofs.PartsBack.{parts_back}
use Rattle.zsv_catalog.proofs.reply.plain_reply.Goals as goal

pub transfer_reply-requires : goal.transfer_reply-requires
transfer_reply-requires g c = sym c.served_transfer.ensures ∙ ap option_copied c.in-Some.is

pub response_to-requires : goal.response_to-requires
response_to-requires g c = sym c.served_transfer.ensures ∙ ap option_copied c.in_default.is

pub returns : goal.returns
returns g c =
    let plain = parts_of c.in_ok-response.response in
    let chains = views_of g.H.ZoneHandler.view c.args.chains.now.chains in
    let nsid = option_copied c.args.nsid in
    let request = c.args.message.now in
    let keys = g.S.TsigSuite.keys c.args.suite.now in
    let r = c.args.received in
    let asks = asked_of_transfer keys request r.source r.octets.now r.now in
    let section = subst IsSection c.queries.ensures c.queries-questions.ensures.section in
    let none : None ≡ question_context chains asks r.now (served_transfer request) = ap (question_context chains asks r.now) (sym (ap option_copied c.in_default.is) ∙ c.served_transfer.ensures) in
    IfOk-weaker c.sent_by-sent.result _ _ (λ sent told.
    let parts = with_edns told.0 plain in
    let gives : PartsOf chains nsid asks request parts = record { plain = plain; gives = c.in_ok-response.ensures.parts asks; edns = told.1; whole = refl } in
    let given : Given = record (only chains parts) { context = question_context chains asks r.now (served_transfer request) } in
    let signs : SignsParts keys request.asked parts (failure_of request given) given.context parts = subst (λ (o : Option SigningContext). SignsParts keys request.asked parts (failure_of request given) o parts) none refl in
    (given, (parts, gives, refl), parts, signs, told.2, λ back. parts_back chains nsid asks request parts section back c.nsid_octets-octets.ensures gives)) c.sent_by-sent.ensures
