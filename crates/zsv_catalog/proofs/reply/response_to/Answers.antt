use Rattle.std.proofs.Common.{◌∙◌, ap, subst, sym, Bool}
use Rattle.std.proofs.lemmas.Bool.{true≢false}
use Rattle.std.proofs.lemmas.Result.{IfOk-weaker}
use Rattle.zsv_answer.specs.Responses.{parts_of}
use Rattle.zsv_update.specs.Options.{has_other_version}
use Rattle.zsv_update.specs.zsv_chains.Chains.{views_of}
use Rattle.zsv_catalog.proofs.Transferred.{flag_of, no_question, same_flag}
use Rattle.zsv_catalog.specs.Catalogs.{KindParts}
use Rattle.zsv_catalog.proofs.reply.response_to.Goals as goal

pub kind_response-requires : goal.kind_response-requires
kind_response-requires g c kind operation =
    no_question c.args.message.now (sym (c.has_other_version.ensures ∙ ap has_other_version c.edns.ensures) ∙ c.if-has_other_version.false) c.requires kind operation

pub returns-clause-parts : goal.returns-clause-parts
returns-clause-parts g c =
    let chains = views_of g.H.ZoneHandler.view c.args.chains.now.chains in
    let m = c.args.message.now in
    let served = sym (c.has_other_version.ensures ∙ ap has_other_version c.edns.ensures) ∙ c.if-has_other_version.false in
    let asked = c.from_edns-options.ensures ∙ ap flag_of c.edns-2.ensures ∙ same_flag m.edns in
    IfOk-weaker c.kind_response.result _ _ (λ r told asks. record {
      other_version = λ other. absurd (true≢false (sym other ∙ served));
      answered = λ _. subst (λ (d : Bool). KindParts chains m.metadata d asks m.metadata.message_type m.asked.questions (parts_of r)) asked (told asks);
    }) c.kind_response.ensures.parts
