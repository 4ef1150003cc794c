use Rattle.std.proofs.Common.{arith}
use Rattle.zsv_parts.proofs.WholeQuestions.{asks_whole, cut_whole, none_whole}
use Rattle.zsv_parts.proofs.in_full.whole_question.Goals as goal

pub returns-in_err-end-clause-none : goal.returns-in_err-end-clause-none
returns-in_err-end-clause-none c =
    rw c.from_residual.ensures (none_whole c.args.octets.now c.args.start c.in_err-end.ensures.none)

pub returns-then-octets-end-clause-none : goal.returns-then-octets-end-clause-none
returns-then-octets-end-clause-none c = cut_whole c.args.octets.now c.args.start c.in_ok-end.field-0 c.in_ok-end.ensures.there c.if-octets-end.true

pub returns-clause-there : goal.returns-clause-there
returns-clause-there c = asks_whole c.args.octets.now (λ i. omega (arith, c.type_inv.octets i)) c.args.start c.in_ok-end.field-0 c.in_ok-end.ensures.there c.if-octets-end.false
