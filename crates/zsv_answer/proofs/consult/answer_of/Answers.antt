use Rattle.std.proofs.Common.{map, subst}
use Rattle.zst_request.specs.Handling.{AnswersQuestion, Flow}
use Rattle.zsv_answer.specs.Consulting.{FirstAnswers}
use Rattle.zsv_answer.proofs.Answering.{continues_resolve}
use Rattle.zsv_answer.proofs.consult.answer_of.Goals as goal

pub returns-in_ok-last-in-Continue : goal.returns-in_ok-last-in-Continue
returns-in_ok-last-in-Continue g c =
    let view = g.H.ZoneHandler.view in
    let name = c.args.request.now.name.now in
    let t = c.args.request.now.query_type in
    let first = subst (FirstAnswers view c.args.handlers.now name t c.args.options) c.in-Some.is c.in_ok-place.ensures in
    let asks = subst (λ (flow : Flow). AnswersQuestion (view c.in-Some.handler.now) name t c.args.options flow) c.in-Continue.is first.2 in
    (first.1, continues_resolve (map view c.args.handlers.now) (view c.in-Some.handler.now) name t c.args.options c.in-Continue.told c.in_ok-last-in-Continue.last c.requires.kind asks c.in_ok-last-in-Continue.ensures)

pub returns-in-Skip : goal.returns-in-Skip
returns-in-Skip g c =
    let first = subst (FirstAnswers g.H.ZoneHandler.view c.args.handlers.now c.args.request.now.name.now c.args.request.now.query_type c.args.options) c.in-Some.is c.in_ok-place.ensures in
    absurd (first.3 c.in-Skip.is)
