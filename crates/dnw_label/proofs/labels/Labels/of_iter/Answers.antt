use Rattle.dnw_label.proofs.LabelsLemmas.{copied, held, holds}
use Rattle.dnw_label.proofs.labels.Labels.of_iter.Goals as goal

pub invariant_of-result : goal.invariant_of-result
invariant_of-result c =
    holds c.in_ok-from_slice.field-0.items c.in_ok-from_slice-2.field-0.items c.args.labels.now
    (copied c.in_ok-from_slice.field-0.items c.in_ok-from_slice-2.field-0.items c.octets.result.now c.lengths.result.now c.args.labels.now
    c.in_ok-from_slice.ensures.ok c.octets.ensures.octets c.in_ok-from_slice-2.ensures.ok c.lengths.ensures)

pub returns : goal.returns
returns c =
    held c.in_ok-from_slice.field-0.items c.in_ok-from_slice-2.field-0.items c.args.labels.now
    (copied c.in_ok-from_slice.field-0.items c.in_ok-from_slice-2.field-0.items c.octets.result.now c.lengths.result.now c.args.labels.now
    c.in_ok-from_slice.ensures.ok c.octets.ensures.octets c.in_ok-from_slice-2.ensures.ok c.lengths.ensures)
