use Rattle.std.proofs.Common.{◌∙◌, sym}
use Rattle.std.specs.BTreeMap.{get}
use Rattle.dnw_name.specs.DomainName.{name_cmp}
use Rattle.zst_key.proofs.NamesAbove.{passed-none, found-last, passed-more, found-none, found-apart, goes-up, last-above}
use Rattle.zst_key.proofs.above.nearest_from.Goals as goal

pub levels-init : goal.levels-init
levels-init g c = passed-none (get name_cmp c.args.names.now) c.args.from

pub returns-then-is_below : goal.returns-then-is_below
returns-then-is_below g c =
    let at = get name_cmp c.args.names.now in
    sym (found-last at c.args.from c.levels.above c.in-Some.owner.now c.in-Some.value.now c.levels.invariant (last-above at c.levels.above c.in-Some.owner.now c.in-Some.value.now c.in-Some.ensures)
    c.is_below.ensures.lower c.is_below.ensures.lower_other (sym c.is_below.ensures.below ∙ c.if-is_below.true))

pub returns-then-not-to_shared : goal.returns-then-not-to_shared
returns-then-not-to_shared g c =
    let at = get name_cmp c.args.names.now in
    sym (found-apart at c.args.from c.levels.above c.in-Some.owner.now c.in-Some.value.now c.levels.invariant
    (last-above at c.levels.above c.in-Some.owner.now c.in-Some.value.now c.in-Some.ensures) (sym c.to_shared.ensures.flags ∙ c.if-not-to_shared.true))

pub levels-smaller : goal.levels-smaller
levels-smaller g c =
    goes-up c.levels.above c.in-Some.owner.now c.to_shared.new.self
    (sym c.to_shared.ensures.flags ∙ c.if-not-to_shared.false) c.in-Some.ensures.0
    (sym c.is_below.ensures.below ∙ c.if-is_below.false) (c.to_shared.ensures.shared c.if-not-to_shared.false)

pub levels-preserved : goal.levels-preserved
levels-preserved g c =
    let at = get name_cmp c.args.names.now in
    passed-more at c.args.from c.levels.above c.in-Some.owner.now c.to_shared.new.self c.in-Some.value.now c.levels.invariant
    (last-above at c.levels.above c.in-Some.owner.now c.in-Some.value.now c.in-Some.ensures) (c.to_shared.ensures.shared c.if-not-to_shared.false)

pub returns : goal.returns
returns g c =
    sym (found-none (get name_cmp c.args.names.now) c.args.from c.levels.above c.levels.invariant c.in_default.ensures)
