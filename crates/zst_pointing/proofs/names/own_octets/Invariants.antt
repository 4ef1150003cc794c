use Rattle.std.proofs.Common.{◌≡◌, length}
use Rattle.drd_fields.specs.dnw_label.Labels.{label_octets}
use Rattle.zst_pointing.proofs.OwnLabels.{Compared}
use Rattle.zst_pointing.proofs.names.own_octets.Given as goal

abbrev pub invariant-labels : goal.invariant-labels
invariant-labels l = record {
  compared : Compared l.name l.other l.labels l.others;
  own : l.own ≡ length (label_octets l.labels);
}

abbrev pub decreases-labels : goal.decreases-labels
decreases-labels l = length l.labels
