use Rattle.std.proofs.Common.{arith}
use Rattle.zst_draft.specs.SetDrafts.{stand_in}
use Rattle.zst_draft.proofs.DraftedRecords.{over_all, over_more, over_none}
use Rattle.zst_draft.proofs.records.RecordsDraft.over.Goals as goal

pub loop-place-init : goal.loop-place-init
loop-place-init c = over_none c.args.stored.now c.new-draft.result c.new-draft.ensures.draft c.new-draft.ensures.records

pub loop-place-preserved : goal.loop-place-preserved
loop-place-preserved c =
    over_more c.args.stored.now c.loop-place.place c.loop-place.draft c.push_stored.new.self stand_in c.loop-place-test.true
    c.in_ok-push_stored.ensures.places c.in_ok-push_stored.ensures.items c.in_ok-push_stored.ensures.len c.loop-place.invariant

pub returns-clause-draft : goal.returns-clause-draft
returns-clause-draft c = (over_all c.args.stored.now c.loop-place.place c.loop-place.draft (omega (arith, c.loop-place-test.false)) c.loop-place.invariant).is

pub returns-clause-records : goal.returns-clause-records
returns-clause-records c = (over_all c.args.stored.now c.loop-place.place c.loop-place.draft (omega (arith, c.loop-place-test.false)) c.loop-place.invariant).are
