use Rattle.std.proofs.Common.{◌∙◌, length, ap}
use Rattle.dnw_label.specs.Labels.{labels_of}
use Rattle.dnw_label.proofs.LabelsLemmas.{length-label_octets}
use Rattle.dnw_label.proofs.labels.Labels.as_octets.Goals as goal

pub returns-clause-len : goal.returns-clause-len
returns-clause-len c =
    rw (c.as_slice.ensures, ← c.self.view_is)
    (ap length c.self.invariant.spelled ∙ length-label_octets (labels_of c.self.inside.lengths.items c.self.inside.octets.items))
