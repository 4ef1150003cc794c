use Rattle.std.proofs.Common.{◌∙◌, ap, sym, subst}
use Rattle.std.specs.Prelude.{IfSome, is_some}
use Rattle.std.specs.BTreeMap.{get}
use Rattle.dnw_name.specs.DomainName.{name_cmp}
use Rattle.zst_key.specs.Ancestors.{GoesToShared}
use Rattle.zst_key.proofs.NamesAbove.{passed-none, found-last, passed-more, found-apart, none-behind, nearest-passed}
use Rattle.zst_key.proofs.Stepping.{first_found, nothing_found, only_found, second_found}
use Rattle.zst_key.proofs.above.nearest.Goals as goal

pub returns-in_default : goal.returns-in_default
returns-in_default g c =
    let names = c.args.names.now in
    sym (none-behind (get name_cmp names) c.args.key.now c.args.key.now (passed-none (get name_cmp names) c.args.key.now)
    (nothing_found names c.range-before.ensures.ordered c.args.key.now c.range-before.result (c.range-before.ensures.between tt) c.in_default.ensures.steps.0))

pub returns-then-is_below : goal.returns-then-is_below
returns-then-is_below g c =
    let names = c.args.names.now in
    let at = get name_cmp names in
    sym (found-last at c.args.key.now c.args.key.now c.in-Some.last.now c.in-Some.value.now (passed-none at c.args.key.now)
    (first_found names c.range-before.ensures.ordered c.args.key.now c.range-before.result (c.range-before.ensures.between tt) (c.range-before.ensures.in_range tt)
    c.next_back.new.self (c.in-Some.last.now, c.in-Some.value.now) c.in-Some.ensures.steps)
    c.is_below.ensures.lower c.is_below.ensures.lower_other (sym c.is_below.ensures.below ∙ c.if-is_below.true))

pub returns-in_default-next_back : goal.returns-in_default-next_back
returns-in_default-next_back g c =
    let names = c.args.names.now in
    sym (none-behind (get name_cmp names) c.args.key.now c.args.key.now (passed-none (get name_cmp names) c.args.key.now)
    (only_found names c.range-before.ensures.ordered c.args.key.now c.range-before.result (c.range-before.ensures.between tt)
    c.next_back.new.self (c.in-Some.last.now, c.in-Some.value.now) c.in-Some.ensures.steps
    c.is_below.ensures.lower c.is_below.ensures.lower_other (sym c.is_below.ensures.below ∙ c.if-is_below.false) c.in_default-next_back.ensures.steps.0))

pub returns-then-is_below-2 : goal.returns-then-is_below-2
returns-then-is_below-2 g c =
    let names = c.args.names.now in
    let at = get name_cmp names in
    sym (found-last at c.args.key.now c.args.key.now c.in-Some-next_back.owner.now c.in-Some-next_back.value.now (passed-none at c.args.key.now)
    (second_found names c.range-before.ensures.ordered c.args.key.now c.range-before.result (c.range-before.ensures.between tt)
    c.next_back.new.self (c.in-Some.last.now, c.in-Some.value.now) c.in-Some.ensures.steps
    c.is_below.ensures.lower c.is_below.ensures.lower_other (sym c.is_below.ensures.below ∙ c.if-is_below.false) (c.range-before.ensures.in_range tt)
    c.next_back-2.new.self (c.in-Some-next_back.owner.now, c.in-Some-next_back.value.now) c.in-Some-next_back.ensures.steps)
    c.is_below-2.ensures.lower c.is_below-2.ensures.lower_other (sym c.is_below-2.ensures.below ∙ c.if-is_below-2.true))

pub returns-in-Some-2 : goal.returns-in-Some-2
returns-in-Some-2 g c =
    let names = c.args.names.now in
    let at = get name_cmp names in
    c.nearest_from.ensures
    ∙ nearest-passed at c.args.key.now c.in-Some-2.above
    (passed-more at c.args.key.now c.args.key.now c.in-Some-next_back.owner.now c.in-Some-2.above c.in-Some-next_back.value.now (passed-none at c.args.key.now)
    (second_found names c.range-before.ensures.ordered c.args.key.now c.range-before.result (c.range-before.ensures.between tt)
    c.next_back.new.self (c.in-Some.last.now, c.in-Some.value.now) c.in-Some.ensures.steps
    c.is_below.ensures.lower c.is_below.ensures.lower_other (sym c.is_below.ensures.below ∙ c.if-is_below.false) (c.range-before.ensures.in_range tt)
    c.next_back-2.new.self (c.in-Some-next_back.owner.now, c.in-Some-next_back.value.now) c.in-Some-next_back.ensures.steps)
    (subst (λ found. IfSome found (GoesToShared c.args.key.now c.in-Some-next_back.owner.now)) c.in-Some-2.is c.in_ok-above.ensures.shared))

pub returns-in-None : goal.returns-in-None
returns-in-None g c =
    let names = c.args.names.now in
    let at = get name_cmp names in
    sym (found-apart at c.args.key.now c.args.key.now c.in-Some-next_back.owner.now c.in-Some-next_back.value.now (passed-none at c.args.key.now)
    (second_found names c.range-before.ensures.ordered c.args.key.now c.range-before.result (c.range-before.ensures.between tt)
    c.next_back.new.self (c.in-Some.last.now, c.in-Some.value.now) c.in-Some.ensures.steps
    c.is_below.ensures.lower c.is_below.ensures.lower_other (sym c.is_below.ensures.below ∙ c.if-is_below.false) (c.range-before.ensures.in_range tt)
    c.next_back-2.new.self (c.in-Some-next_back.owner.now, c.in-Some-next_back.value.now) c.in-Some-next_back.ensures.steps)
    (sym c.in_ok-above.ensures.flags ∙ ap is_some c.in-None.is))
