use Rattle.dnw_label.specs.Labels.{labels_of}
use Rattle.dnw_label.proofs.LabelsLemmas.{same-but_case}
use Rattle.dnw_label.proofs.label_iter.LabelIter.eq_ignore_ascii_case.Goals as goal

pub returns : goal.returns
returns c =
    rw (← c.self.view_is, ← c.other.view_is)
    (same-but_case c.eq_ignore_ascii_case.result
    c.self.inside.octets.now c.self.inside.lengths.now (labels_of c.self.inside.lengths.now c.self.inside.octets.now)
    c.other.inside.octets.now c.other.inside.lengths.now (labels_of c.other.inside.lengths.now c.other.inside.octets.now)
    c.self.invariant c.other.invariant c.eq_ignore_ascii_case.ensures.test)
