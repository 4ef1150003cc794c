use Rattle.std.proofs.Common.{map, arith}
use Rattle.zst_circle.specs.zst_handler.Answers.{set_in}
use Rattle.zst_zone.proofs.ChainLinks.{ends-long}
use Rattle.zst_zone.proofs.chain.follow.Goals as goal

pub returns-in-None : goal.returns-in-None
returns-in-None c =
    λ name is. rw c.in-None.is at (c.in_ok-target.ensures name c.sets.counter (omega arith) (c.sets.invariant name is))

pub sets-preserved : goal.sets-preserved
sets-preserved c =
    λ name is. rw c.in-Some.is at (c.in_ok-target.ensures name c.sets.counter (omega arith) (c.sets.invariant name is))

pub returns : goal.returns
returns c =
    λ name is. ends-long c.args.sets.now name c.args.record_type (map set_in c.sets.chain.items) c.sets.asked.items c.sets.counter c.sets.next.now (c.sets.invariant name is) (omega arith)
