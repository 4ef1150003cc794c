use Rattle.std.proofs.Common.{sym, subst, Bool}
use Rattle.drd_types.specs.drd_fields.Equality.{Tells}
use Rattle.drd_rdata.specs.OrderLaws.{ordered_tells}
use Rattle.drd_rdata.proofs.order.RDataPartialEq.eq.Goals as goal

pub returns-clause-canonical : goal.returns-clause-canonical
returns-clause-canonical c = λ xs ys number own p q.
    subst (λ (same : Bool). Tells same xs ys) (sym c.is_eq.ensures) (ordered_tells c.cmp.result xs ys (c.cmp.ensures.canonical xs ys number own p q))
