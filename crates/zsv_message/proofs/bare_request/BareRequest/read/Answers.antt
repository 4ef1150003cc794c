use Rattle.std.proofs.Common.{arith, sym, ◌∙◌}
use Rattle.zsv_message.proofs.BareRequests.{bare_there, not_alone}
use Rattle.zsv_message.proofs.bare_request.BareRequest.read.Goals as goal

pub returns-in_err-header-clause-none : goal.returns-in_err-header-clause-none
returns-in_err-header-clause-none c = rw c.from_residual.ensures (λ asked asks. omega (arith, c.in_err-header.ensures, asks.long))

pub returns-then-not-asks_alone-clause-none : goal.returns-then-not-asks_alone-clause-none
returns-then-not-asks_alone-clause-none c = λ asked asks.
    not_alone c.args.octets.now c.in_ok-header.header asked c.in_ok-header.ensures.0 (sym c.asks_alone.ensures ∙ c.if-not-asks_alone.true) asks

pub returns-in_err-question-clause-none : goal.returns-in_err-question-clause-none
returns-in_err-question-clause-none c = rw c.from_residual-in_err-question.ensures (λ asked asks. c.in_err-question.ensures.none asked asks.end asks.name asks.there asks.whole)

pub returns-clause-there : goal.returns-clause-there
returns-clause-there c =
    let there = c.in_ok-question.ensures.there in (
      there.0,
      bare_there c.args.octets.now c.in_ok-header.header there.0 there.1 c.in_ok-header.ensures.0 c.in_ok-header.ensures.1 (sym c.asks_alone.ensures ∙ c.if-not-asks_alone.false) there.3,
      there.3.questions.1,
      there.5,
    )
