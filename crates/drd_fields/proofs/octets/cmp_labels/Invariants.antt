use Rattle.std.proofs.Common.{◌≡◌, length}
use Rattle.drd_fields.specs.Order.{octets_cmp, labels_octets}
use Rattle.drd_fields.proofs.octets.cmp_labels.Given as goal

abbrev pub invariant-labels : goal.invariant-labels
invariant-labels l = octets_cmp (labels_octets l.fn.s) (labels_octets l.fn.t) ≡ octets_cmp (labels_octets l.left) (labels_octets l.right)

abbrev pub decreases-labels : goal.decreases-labels
decreases-labels l = length l.left
