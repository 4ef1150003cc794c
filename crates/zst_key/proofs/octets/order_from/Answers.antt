use Rattle.std.proofs.Common.{◌+◌, ◌-◌, ◌∙◌, rules, length, arith, inl, inr}
use Rattle.std.proofs.lemmas.Bool.{cases_lt}
use Rattle.zst_key.proofs.WordOrder.{AreSmall, eight_alike, eight_decide, lengths_decide}
use Rattle.zst_key.proofs.octets.order_from.Goals as goal

pub returns-then-x-y : goal.returns-then-x-y
returns-then-x-y c =
    let m = c.words.invariant.last in
    let few : AreSmall c.args.first.now = search rules in
    let less : AreSmall c.args.second.now = search rules in
    eight_decide c.args.first.now c.args.second.now c.words.at c.words.at c.word-x.result c.word-y.result c.cmp.result (omega arith) (omega arith) (omega arith)
    few less c.words.invariant.alike c.word-x.ensures c.word-y.ensures c.if-x-y.true c.cmp.ensures

pub words-preserved : goal.words-preserved
words-preserved c =
    let m = c.words.invariant.last in
    let few : AreSmall c.args.first.now = search rules in
    let less : AreSmall c.args.second.now = search rules in
    record {
      last = c.words.invariant.last;
      within = omega arith;
      alike = eight_alike c.args.first.now c.args.second.now c.words.at c.words.at c.word-x.result c.word-y.result (omega arith) (omega arith) (omega arith)
          few less c.words.invariant.alike c.word-x.ensures c.word-y.ensures c.if-x-y.false;
    }

pub returns-then-x-y-2 : goal.returns-then-x-y-2
returns-then-x-y-2 c =
    let m = c.words.invariant.last in
    let few : AreSmall c.args.first.now = search rules in
    let less : AreSmall c.args.second.now = search rules in
    eight_decide c.args.first.now c.args.second.now c.words.at (c.min-last.result - 8) c.word-x-2.result c.word-y-2.result c.cmp-then-x-y-2.result (omega arith) (omega arith) (omega arith)
    few less c.words.invariant.alike c.word-x-2.ensures c.word-y-2.ensures c.if-x-y-2.true c.cmp-then-x-y-2.ensures

pub returns : goal.returns
returns c =
    let m = c.words.invariant.last in
    let few : AreSmall c.args.first.now = search rules in
    let less : AreSmall c.args.second.now = search rules in
    c.cmp-2.ensures
    ∙ lengths_decide c.args.first.now c.args.second.now (c.min-last.result - 8 + 8) (omega arith) (omega arith)
    (eight_alike c.args.first.now c.args.second.now c.words.at (c.min-last.result - 8) c.word-x-2.result c.word-y-2.result (omega arith) (omega arith) (omega arith)
    few less c.words.invariant.alike c.word-x-2.ensures c.word-y-2.ensures c.if-x-y-2.false)
    (elim (cases_lt (length c.args.first.now) (length c.args.second.now)) [ inl less ↦ inl (omega (arith, less, m)) | inr more ↦ inr (omega (arith, more, m)) ])
