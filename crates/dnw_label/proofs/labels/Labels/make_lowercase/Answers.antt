use Rattle.std.proofs.Common.{map}
use Rattle.std.specs.Str.{str_to_ascii_lowercase}
use Rattle.dnw_label.specs.Labels.{labels_of}
use Rattle.dnw_label.proofs.LabelsLemmas.{held, holds, lowered-place}
use Rattle.dnw_label.proofs.labels.Labels.make_lowercase.Goals as goal

pub invariant_of-self : goal.invariant_of-self
invariant_of-self c =
    holds _ c.self.inside.lengths.items (map str_to_ascii_lowercase (labels_of c.self.inside.lengths.items c.self.inside.octets.items))
    (lowered-place c.self.inside.octets.items c.self.inside.lengths.items c.as_mut_slice.result.now c.make_ascii_lowercase.new.self
    (labels_of c.self.inside.lengths.items c.self.inside.octets.items) c.self.invariant c.as_mut_slice.ensures.value c.make_ascii_lowercase.ensures.after)

pub returns : goal.returns
returns c =
    rw (← c.self.view_is)
    (held _ c.self.inside.lengths.items (map str_to_ascii_lowercase (labels_of c.self.inside.lengths.items c.self.inside.octets.items))
    (lowered-place c.self.inside.octets.items c.self.inside.lengths.items c.as_mut_slice.result.now c.make_ascii_lowercase.new.self
    (labels_of c.self.inside.lengths.items c.self.inside.octets.items) c.self.invariant c.as_mut_slice.ensures.value c.make_ascii_lowercase.ensures.after))
