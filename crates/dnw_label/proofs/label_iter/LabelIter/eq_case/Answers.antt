use Rattle.dnw_label.proofs.LabelsLemmas.{same-case}
use Rattle.dnw_label.proofs.label_iter.LabelIter.eq_case.Goals as goal

pub returns : goal.returns
returns c =
    rw (← c.self.view_is, ← c.other.view_is)
    (same-case c.eq.result c.self.inside.octets.now c.other.inside.octets.now _ _ c.self.invariant.spelled c.other.invariant.spelled c.eq.ensures)
