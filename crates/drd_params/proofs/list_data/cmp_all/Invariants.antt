use Rattle.std.proofs.Common.{◌≡◌, length}
use Rattle.std.specs.List.{flat_map}
use Rattle.drd_params.specs.drd_fields.Order.{octets_cmp}
use Rattle.drd_params.proofs.list_data.cmp_all.Given as goal

abbrev pub invariant-entries : goal.invariant-entries
invariant-entries g l =
    octets_cmp (flat_map g.T.Entry.spelled l.initial.left) (flat_map g.T.Entry.spelled l.initial.right) ≡ octets_cmp (flat_map g.T.Entry.spelled l.left) (flat_map g.T.Entry.spelled l.right)

abbrev pub decreases-entries : goal.decreases-entries
decreases-entries g l = length l.left
