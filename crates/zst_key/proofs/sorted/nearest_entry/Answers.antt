use Rattle.std.proofs.Common.{◌∙◌, sym}
use Rattle.zst_key.specs.Sorted.{entry_at}
use Rattle.zst_key.proofs.NamesAbove.{passed-none, found-last, passed-more, found-none, found-apart, goes-up, last-above}
use Rattle.zst_key.proofs.sorted.nearest_entry.Goals as goal

pub levels-init : goal.levels-init
levels-init g c = passed-none (entry_at c.args.entries.now) c.args.key

pub returns-then-is_below : goal.returns-then-is_below
returns-then-is_below g c =
    let at = entry_at c.args.entries.now in
    let entry = c.in-Some.entry.now in
    sym (found-last at c.args.key c.levels.above entry.0 entry.1 c.levels.invariant (last-above at c.levels.above entry.0 entry.1 c.in-Some.ensures)
    c.is_below.ensures.lower c.is_below.ensures.lower_other (sym c.is_below.ensures.below ∙ c.if-is_below.true))

pub returns-then-not-to_shared : goal.returns-then-not-to_shared
returns-then-not-to_shared g c =
    let at = entry_at c.args.entries.now in
    let entry = c.in-Some.entry.now in
    sym (found-apart at c.args.key c.levels.above entry.0 entry.1 c.levels.invariant
    (last-above at c.levels.above entry.0 entry.1 c.in-Some.ensures) (sym c.to_shared.ensures.flags ∙ c.if-not-to_shared.true))

pub levels-smaller : goal.levels-smaller
levels-smaller g c =
    goes-up c.levels.above c.in-Some.entry.now.0 c.to_shared.new.self
    (sym c.to_shared.ensures.flags ∙ c.if-not-to_shared.false) c.in-Some.ensures.0
    (sym c.is_below.ensures.below ∙ c.if-is_below.false) (c.to_shared.ensures.shared c.if-not-to_shared.false)

pub levels-preserved : goal.levels-preserved
levels-preserved g c =
    let at = entry_at c.args.entries.now in
    let entry = c.in-Some.entry.now in
    passed-more at c.args.key c.levels.above entry.0 c.to_shared.new.self entry.1 c.levels.invariant
    (last-above at c.levels.above entry.0 entry.1 c.in-Some.ensures) (c.to_shared.ensures.shared c.if-not-to_shared.false)

pub returns : goal.returns
returns g c =
    sym (found-none (entry_at c.args.entries.now) c.args.key c.levels.above c.levels.invariant c.in_default.ensures)
