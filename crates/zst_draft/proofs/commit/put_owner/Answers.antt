use Rattle.std.proofs.Common.{◌<◌, ◌∙◌, arith, length}
use Rattle.std.proofs.lemmas.List.{length-set}
use Rattle.zst_draft.proofs.Found.{there_or}
use Rattle.zst_draft.proofs.Loops.{puts_next}
use Rattle.zst_draft.proofs.commit.put_owner.Goals as goal

pub loop-at-preserved : goal.loop-at-preserved
loop-at-preserved c =
    let fs = c.loop-at.owner.sets.items in
    let i = c.loop-at.at in
    let small : i < length fs = omega (arith, c.loop-at-test.true, c.len-at-end.ensures, c.loop-at.invariant.long) in
    record {
      puts = puts_next c.args.zone.now c.loop-at.zone c.put.new.zone c.args.key.now c.args.owner.now.sets.items i fs c.index_mut.result.now c.put.new.draft
          (there_or fs i _ c.index_mut.result.now small c.index_mut.ensures.value) c.in_ok-put.ensures.settles c.in_ok-put.ensures.ready c.loop-at.invariant.puts;
      long = length-set fs i c.put.new.draft ∙ c.loop-at.invariant.long;
      back = λ start from. c.put.ensures.back start (c.loop-at.invariant.back start from);
    }
