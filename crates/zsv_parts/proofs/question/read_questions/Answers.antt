use Rattle.std.proofs.Common.{arith, inr, ◌∙◌}
use Rattle.std.proofs.lemmas.Result.{err_from_is_err_and}
use Rattle.zsv_parts.specs.Questions.{QuestionAt}
use Rattle.zsv_parts.proofs.Questions.{question_once, entries_more, entries_all, questions_none, questions_refused}
use Rattle.zsv_parts.proofs.question.read_questions.Goals as goal

pub returns-in_err-question-clause-refused : goal.returns-in_err-question-clause-refused
returns-in_err-question-clause-refused c =
    let p = err_from_is_err_and c.from_residual.result c.from_residual.ensures.1 in
    let refused = rw c.questions.invariant.same at c.in_err-question.ensures.refused in
    rw (p.1, p.2) (inr (questions_refused c.args.decoder.now.octets c.args.decoder.now.index c.args.count _ _ _ c.questions.invariant.ahead (omega arith) refused))

pub returns-in_err-question-clause-none : goal.returns-in_err-question-clause-none
returns-in_err-question-clause-none c =
    let p = err_from_is_err_and c.from_residual.result c.from_residual.ensures.1 in
    let none = rw c.questions.invariant.same at c.in_err-question.ensures.none in
    rw (p.1, p.2) (questions_none c.args.decoder.now.octets c.args.decoder.now.index c.args.count _ _ _ c.questions.invariant.ahead (omega arith) none)

pub questions-preserved : goal.questions-preserved
questions-preserved c =
    let read = rw c.questions.invariant.same at c.in_ok-question.ensures.ok in
    record {
      ahead = rw c.in-Ok.ensures.ok (entries_more (QuestionAt c.args.decoder.now.octets) (question_once c.args.decoder.now.octets) c.args.decoder.now.index _ _ _ _ c.questions.invariant.ahead read);
      counted = omega (arith, c.in-Ok.ensures.len, c.questions.invariant.counted);
      same = c.in_ok-question.ensures.same ∙ c.questions.invariant.same;
      forward = omega (arith, c.in_ok-question.ensures.forward, c.questions.invariant.forward);
      within = λ begin. c.in_ok-question.ensures.within;
    }

pub returns-clause-ok : goal.returns-clause-ok
returns-clause-ok c = (entries_all (QuestionAt c.args.decoder.now.octets) c.args.decoder.now.index _ _ c.questions.invariant.ahead, omega (arith, c.questions.invariant.counted))
