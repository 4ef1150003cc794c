use Rattle.std.proofs.Common.{rules, arith}
use Rattle.zst_key.proofs.WordOrder.{AreSmall, eight_alike, eight_decide}
use Rattle.zst_key.proofs.octets.order.Goals as goal

pub returns-then-x-y : goal.returns-then-x-y
returns-then-x-y c =
    let few : AreSmall c.args.first.now = search rules in
    let less : AreSmall c.args.second.now = search rules in
    eight_decide c.args.first.now c.args.second.now 0 0 c.word-x.result c.word-y.result c.cmp-then-x-y.result (omega arith) (omega arith) (omega arith)
    few less (λ i none. absurd (omega (arith, none))) c.word-x.ensures c.word-y.ensures c.if-x-y.true c.cmp-then-x-y.ensures

pub order_from-requires-clause-alike : goal.order_from-requires-clause-alike
order_from-requires-clause-alike c =
    let few : AreSmall c.args.first.now = search rules in
    let less : AreSmall c.args.second.now = search rules in
    eight_alike c.args.first.now c.args.second.now 0 0 c.word-x.result c.word-y.result (omega arith) (omega arith) (omega arith)
    few less (λ i none. absurd (omega (arith, none))) c.word-x.ensures c.word-y.ensures c.if-x-y.false

pub returns-then-x-y-2 : goal.returns-then-x-y-2
returns-then-x-y-2 c =
    let few : AreSmall c.args.first.now = search rules in
    let less : AreSmall c.args.second.now = search rules in
    eight_decide c.args.first.now c.args.second.now 8 8 c.word-x-2.result c.word-y-2.result c.cmp-then-x-y-2.result (omega arith) (omega arith) (omega arith)
    few less (eight_alike c.args.first.now c.args.second.now 0 0 c.word-x.result c.word-y.result (omega arith) (omega arith) (omega arith)
    few less (λ i none. absurd (omega (arith, none))) c.word-x.ensures c.word-y.ensures c.if-x-y.false) c.word-x-2.ensures c.word-y-2.ensures c.if-x-y-2.true c.cmp-then-x-y-2.ensures

pub order_from-requires-2-clause-alike : goal.order_from-requires-2-clause-alike
order_from-requires-2-clause-alike c =
    let few : AreSmall c.args.first.now = search rules in
    let less : AreSmall c.args.second.now = search rules in
    eight_alike c.args.first.now c.args.second.now 8 8 c.word-x-2.result c.word-y-2.result (omega arith) (omega arith) (omega arith)
    few less (eight_alike c.args.first.now c.args.second.now 0 0 c.word-x.result c.word-y.result (omega arith) (omega arith) (omega arith)
    few less (λ i none. absurd (omega (arith, none))) c.word-x.ensures c.word-y.ensures c.if-x-y.false) c.word-x-2.ensures c.word-y-2.ensures c.if-x-y-2.false
