use Rattle.std.proofs.Common.{◌≡◌, ◌∙◌, List, ap, subst, sym}
use Rattle.std.specs.Prelude.{None}
use Rattle.zsv_answer.specs.zsv_reply.zsv_message.zsv_parts.declared.question.Query.{Query}
use Rattle.zsv_catalog.specs.Catalogs.{transfer_question}
use Rattle.zsv_update.proofs.Decided.{one_question}
use Rattle.zsv_catalog.proofs.Transferred.{asks_none}
use Rattle.zsv_catalog.proofs.reply.query_response.Goals as goal

pub question_response-requires : goal.question_response-requires
question_response-requires g c =
    let q = c.question-item.result in
    let one = sym (c.queries-2.ensures.value ∙ ap (λ asked. asked.questions) c.queries.ensures) ∙ one_question c.queries-2.result.now q c.in-len1.len_at_least c.in-len1.len_below c.question-item.is in
    asks_none q (subst (λ (qs : List Query). transfer_question qs ≡ None) one c.requires)
