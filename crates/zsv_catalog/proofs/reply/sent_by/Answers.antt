use Rattle.std.proofs.Common.{subst}
use Rattle.std.proofs.lemmas.Result.{IfOk-weaker}
use Rattle.std.specs.Prelude.{Option, option_copied}
use Rattle.zsv_answer.specs.Responses.{parts_of}
use Rattle.zsv_answer.specs.zsv_reply.Writing.{Sends}
use Rattle.zsv_answer.specs.zsv_reply.zsv_message.zst_edns.declared.edns.Edns.{Edns}
use Rattle.zsv_answer.specs.zsv_reply.zsv_message.zsv_parts.Questions.{Asked}
use Rattle.zsv_update.specs.Options.{AnswersEdns, nsid_for}
use Rattle.zsv_catalog.proofs.reply.sent_by.Goals as goal

pub returns : goal.returns
returns c =
    let plain = parts_of c.args.response.now in
    let edns = c.in_ok-edns.edns in
    let answers = subst (λ (asked : Option Edns). AnswersEdns asked (nsid_for asked (option_copied c.args.nsid)) plain.metadata.response_code edns) c.edns.ensures c.in_ok-edns.ensures.answers in
    IfOk-weaker c.encode.result _ _ (λ sent told.
    let asked = subst (λ (asked : Asked). Sends plain (option_copied c.as_ref.result) asked c.args.protocol sent.0 sent.1.items) c.queries.ensures told in
    let sends = subst (λ (o : Option Edns). Sends plain o c.args.message.now.asked c.args.protocol sent.0 sent.1.items) c.as_ref.ensures.value asked in
    (edns, answers, sends)) c.encode.ensures
