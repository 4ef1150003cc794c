use Rattle.std.proofs.Common.{refl}
use Rattle.dnw_label.proofs.LabelsLemmas.{none}
use Rattle.dnw_label.proofs.labels.Labels.new.Goals as goal

pub invariant_of-result : goal.invariant_of-result
invariant_of-result c = rw (c.new.ensures.items, c.new-2.ensures.items) none

pub returns : goal.returns
returns c = rw (c.new.ensures.items, c.new-2.ensures.items) refl
