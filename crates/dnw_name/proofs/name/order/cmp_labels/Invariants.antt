use Rattle.std.proofs.Common.{◌≡◌, length, reverse}
use Rattle.std.specs.Cmp.Lexicographic.{slice_cmp}
use Rattle.dnw_name.proofs.name.order.cmp_labels.Given as goal

abbrev pub invariant-labels : goal.invariant-labels
invariant-labels g l =
    slice_cmp (slice_cmp g.F.LabelCmp.octet_cmp) (reverse l.fn.l) (reverse l.fn.r)
    ≡ slice_cmp (slice_cmp g.F.LabelCmp.octet_cmp) (reverse l.left) (reverse l.right)

abbrev pub decreases-labels : goal.decreases-labels
decreases-labels g l = length l.left
