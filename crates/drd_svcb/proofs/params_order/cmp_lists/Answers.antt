use Rattle.std.proofs.Common.{◌≡◌, ◌<◌, length, sym, ◌∙◌, rules, arith}
use Rattle.std.proofs.lemmas.Bool.Decides.{nat_tests}
use Rattle.drd_svcb.proofs.Orders.{params-less}
use Rattle.drd_svcb.proofs.params_order.cmp_lists.Goals as goal

pub returns-else-is_empty : goal.returns-else-is_empty
returns-else-is_empty c =
    let none : length c.params.left.now ≡ 0 = search rules in
    let some : 0 < length c.params.right.now = grind (arith, nat_tests) in
    params-less c.params.left.now c.params.right.now none some ∙ sym c.params.invariant
