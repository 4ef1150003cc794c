use Rattle.std.proofs.Common.{◌≡◌, length}
use Rattle.drd_params.specs.drd_fields.Equality.{fields_eq}
use Rattle.drd_params.specs.Equality.{params_code}
use Rattle.drd_params.proofs.same.are_equal.Given as goal

abbrev pub invariant-params : goal.invariant-params
invariant-params l =
    fields_eq (params_code l.initial.left) (params_code l.initial.right) ≡ fields_eq (params_code l.left) (params_code l.right)

abbrev pub decreases-params : goal.decreases-params
decreases-params l = length l.left
