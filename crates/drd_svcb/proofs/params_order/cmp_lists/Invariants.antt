use Rattle.std.proofs.Common.{◌≡◌, length}
use Rattle.drd_params.specs.drd_fields.Order.{fields_cmp}
use Rattle.drd_params.specs.Equality.{params_code}
use Rattle.drd_svcb.proofs.params_order.cmp_lists.Given as goal

abbrev pub invariant-params : goal.invariant-params
invariant-params l = fields_cmp (params_code l.initial.left) (params_code l.initial.right) ≡ fields_cmp (params_code l.left) (params_code l.right)

abbrev pub decreases-params : goal.decreases-params
decreases-params l = length l.left
