use Rattle.std.proofs.Common.{◌<◌, ◌∙◌, arith, length}
use Rattle.std.proofs.lemmas.List.{length-set}
use Rattle.zst_draft.proofs.Found.{there_or}
use Rattle.zst_draft.proofs.Loops.{settles_next}
use Rattle.zst_draft.proofs.Settled.{ready_none}
use Rattle.zst_draft.proofs.commit.settle_owner.Goals as goal

pub loop-at-preserved : goal.loop-at-preserved
loop-at-preserved c =
    let fs = c.loop-at.owner.sets.items in
    let i = c.loop-at.at in
    let small : i < length fs = omega (arith, c.loop-at-test.true, c.len-at-end.ensures, c.loop-at.invariant.long) in
    record {
      settles = settles_next c.args.zone.now c.loop-at.zone c.settle.new.zone c.args.key.now c.args.owner.now.sets.items i fs c.index_mut.result.now c.settle.new.draft small
          (there_or fs i _ c.index_mut.result.now small c.index_mut.ensures.value) c.settle.ensures.settles (ready_none c.settle.new.zone c.args.key.now c.settle.new.draft c.settle.ensures.done) c.settle.ensures.done
          c.loop-at.invariant.settles;
      long = length-set fs i c.settle.new.draft ∙ c.loop-at.invariant.long;
    }
