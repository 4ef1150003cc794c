use Rattle.std.proofs.Common.{arith}
use Rattle.zst_key.proofs.ParentEnds.{parent-at}
use Rattle.zst_key.proofs.octets.parent_end.Goals as goal

pub returns-clause-parent : goal.returns-clause-parent
returns-clause-parent c = λ name is.
    let last = c.last_end.ensures in
    parent-at c.args.octets.now c.last_end.result name is (last.some (omega (arith, c.max.ensures))) (omega (arith, last.within, c.max.ensures))
    (λ more. omega (arith, more, last.within, c.max.ensures)) (λ i from inside. last.none i from (omega (arith, inside, c.max.ensures))) last.stops
