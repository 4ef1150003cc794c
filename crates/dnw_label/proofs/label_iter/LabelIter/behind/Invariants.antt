use Rattle.std.proofs.Common.{◌≡◌, drop}
use Rattle.dnw_label.proofs.label_iter.LabelIter.behind.Given as goal

abbrev pub invariant-labels : goal.invariant-labels
invariant-labels l = l.labels ≡ drop l._passed l.fn.self
