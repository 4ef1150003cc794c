use Rattle.std.proofs.Common.{arith}
use Rattle.zst_absence.proofs.Enclosers.{lowest_found}
use Rattle.zst_absence.proofs.enclosing.lowest.Goals as goal

pub returns : goal.returns
returns c =
    let l = c.halves in
    lowest_found c.args.sets.now c.args.name.now c.args.low l.absent l.present c.args.high l.invariant.from l.invariant.order l.invariant.to c.requires.within l.invariant.none l.invariant.there
    (omega (arith, c.halves-test.false, l.invariant.order))
