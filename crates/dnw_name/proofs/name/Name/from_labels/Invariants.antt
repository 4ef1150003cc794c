use Rattle.dnw_name.proofs.Taken.{Taken}
use Rattle.dnw_name.proofs.name.Name.from_labels.Given as goal

abbrev pub invariant-labels : goal.invariant-labels
invariant-labels g l =
    Taken g.I.Iterator.next_gives g.I.Iterator.can_next g.L.IntoLabel.octets g.L.IntoLabel.accepts l.fn.labels l.left l.name l._taken
