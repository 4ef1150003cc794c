use Rattle.std.proofs.Common.{◌≡◌, All, fold, length}
use Rattle.std.specs.List.{flat_map}
use Rattle.dnw_net.specs.dnw_label.Label.{IsLabel}
use Rattle.dnw_net.specs.dnw_label.LabelHash.{label_writes}
use Rattle.dnw_name.proofs.name.order.hash_labels.Given as goal

abbrev pub invariant-labels : goal.invariant-labels
invariant-labels g l = record {
  fed : fold g.H.Hasher.write l.initial.state (flat_map label_writes l.fn.labels) ≡ fold g.H.Hasher.write l.state (flat_map label_writes l.left);
  each : All IsLabel l.left;
}

abbrev pub decreases-labels : goal.decreases-labels
decreases-labels g l = length l.left
