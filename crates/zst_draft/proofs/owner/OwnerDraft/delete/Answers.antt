use Rattle.std.proofs.Common.{◌<◌, ◌+◌, arith, length, subst, sym}
use Rattle.std.specs.Prelude.{slice_set}
use Rattle.zst_draft.proofs.Found.{there_or}
use Rattle.zst_draft.proofs.Loops.{DeletesFirst, deletes_next}
use Rattle.zst_draft.proofs.owner.OwnerDraft.delete.Goals as goal

pub loop-at-preserved : goal.loop-at-preserved
loop-at-preserved c =
    let now = c.loop-at.self.sets.items in
    let i = c.loop-at.at in
    let small : i < length now = omega (arith, c.loop-at-test.true, c.len-at-end.ensures, c.loop-at.invariant.long) in
    subst (DeletesFirst c.args.at_apex c.args.change.now c.args.self.now.sets.items (i + 1) (slice_set now i c.delete-deleted.new.self)) (sym c.either-changed.ensures)
    (deletes_next c.args.at_apex c.args.change.now c.args.self.now.sets.items i now c.loop-at.changed c.delete-deleted.result c.index_mut.result.now c.delete-deleted.new.self small
    (there_or now i _ c.index_mut.result.now small c.index_mut.ensures.value)
    (record { kind = c.delete-deleted.ensures.kind; is = c.delete-deleted.ensures.draft; set = c.delete-deleted.ensures.set })
    c.delete-deleted.ensures.changed
    c.loop-at.invariant)
