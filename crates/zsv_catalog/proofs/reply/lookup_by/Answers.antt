use Rattle.std.proofs.Common.{◌≡◌, ◌∙◌, Bool, Option, Some, None, ap, refl, subst, sym}
use Rattle.std.proofs.lemmas.Result.{IfOk-weaker}
use Rattle.std.specs.Prelude.{option_copied}
use Rattle.zsv_answer.specs.Responses.{parts_of}
use Rattle.zsv_answer.specs.Transferring.{response_parts}
use Rattle.zsv_answer.specs.zst_request.Updating.{SigningContext}
use Rattle.zsv_answer.specs.zsv_reply.Writing.{AllReadBack, SendsParts, error_parts, with_edns}
use Rattle.zsv_answer.specs.zst_request.zst_codes.declared.response_code.ResponseCode.TheVariants as responses
use Rattle.zsv_answer.specs.zsv_reply.zsv_message.zsv_parts.Questions.{Asked, IsSection}
use Rattle.zsv_catalog.specs.Catalogs.{QueryParts, SendsSigned, asked_of_transfer, asks_for_dnssec, question_context, transfer_question}
use Rattle.zsv_update.specs.Signing.{SignsParts}
use Rattle.zsv_update.specs.zsv_chains.Chains.{views_of}
use Rattle.zsv_catalog.proofs.PartsBack.{query_back, section_full}
use Rattle.zsv_catalog.proofs.Transferred.{asks_transfer, flag_of, same_flag, transfer_contexts, transfer_query_parts}
use Rattle.zsv_catalog.proofs.reply.lookup_by.Goals as goal

pub query_response-requires : goal.query_response-requires
query_response-requires g c = sym c.transfer_question.ensures ∙ ap option_copied c.in_default.is

pub returns-in-Some : goal.returns-in-Some
returns-in-Some g c =
    let request = c.args.message.now in
    let chains = views_of g.H.ZoneHandler.view c.args.chains.now.chains in
    let keys = g.S.TsigSuite.keys c.args.suite.now in
    let r = c.args.received in
    let d = asks_for_dnssec request.edns in
    let asks = asked_of_transfer keys request r.source r.octets.now r.now in
    let q = c.in-Some.question.now in
    let section = subst IsSection c.queries.ensures c.queries-questions.ensures.section in
    let question : transfer_question request.asked.questions ≡ Some q = sym c.transfer_question.ensures ∙ ap option_copied c.in-Some.is in
    let plain = response_parts c.in_ok-response.response in
    let parts : QueryParts chains request.metadata d asks request.asked.questions plain = transfer_query_parts chains request.metadata d asks request.asked.questions q plain (asks_transfer request.asked.questions q question) c.in_ok-response.ensures.parts in
    let context = transfer_contexts chains asks r.now q (transfer_question request.asked.questions) _ question c.in_ok-response.ensures.context in
    IfOk-weaker c.encode_signed.result _ _ (λ sent told. (
      plain,
      parts,
      subst (λ (o : Option SigningContext). SendsSigned keys request plain o (option_copied c.args.edns) r.protocol sent.0 sent.1.items) context told,
      λ back. query_back chains request.metadata d asks request.asked.questions plain (section_full request.asked section) back parts,
    )) c.encode_signed.ensures

pub returns : goal.returns
returns g c =
    let request = c.args.message.now in
    let chains = views_of g.H.ZoneHandler.view c.args.chains.now.chains in
    let keys = g.S.TsigSuite.keys c.args.suite.now in
    let r = c.args.received in
    let edns = option_copied c.args.edns in
    let d = asks_for_dnssec request.edns in
    let asks = asked_of_transfer keys request r.source r.octets.now r.now in
    let section = subst IsSection c.queries.ensures c.queries-questions.ensures.section in
    let plain = parts_of c.in_ok-response-2.response in
    let dnssec = c.from_edns-options.ensures ∙ ap flag_of c.edns.ensures ∙ same_flag request.edns in
    let parts = subst (λ (dnssec_ok : Bool). QueryParts chains request.metadata dnssec_ok asks request.asked.questions plain) dnssec (c.in_ok-response-2.ensures.parts asks) in
    let none : None ≡ question_context chains asks r.now (transfer_question request.asked.questions) = ap (question_context chains asks r.now) (sym (ap option_copied c.in_default.is) ∙ c.transfer_question.ensures) in
    let failure = with_edns edns (error_parts request.metadata responses.ServFail) in
    IfOk-weaker c.encode.result _ _ (λ sent told.
    let sends = subst (λ (asked : Asked). SendsParts (with_edns edns plain) asked r.protocol sent.0 sent.1.items) c.queries-2.ensures told in (
      plain,
      parts,
      (
        with_edns edns plain,
        subst (λ (o : Option SigningContext). SignsParts keys request.asked (with_edns edns plain) failure o (with_edns edns plain)) none refl,
        sends,
        λ (back : AllReadBack (with_edns edns plain)). back,
      ),
      λ back. query_back chains request.metadata d asks request.asked.questions plain (section_full request.asked section) back parts,
    )) c.encode.ensures
