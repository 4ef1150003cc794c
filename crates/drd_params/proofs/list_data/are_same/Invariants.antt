use Rattle.std.proofs.Common.{Bool, length}
use Rattle.std.specs.List.{flat_map}
use Rattle.drd_params.specs.drd_fields.Equality.{Tells}
use Rattle.drd_params.proofs.list_data.are_same.Given as goal

abbrev pub invariant-entries : goal.invariant-entries
invariant-entries g l =
    (b : Bool) → Tells b (flat_map g.T.Entry.spelled l.left) (flat_map g.T.Entry.spelled l.right) → Tells b (flat_map g.T.Entry.spelled l.initial.left) (flat_map g.T.Entry.spelled l.initial.right)

abbrev pub decreases-entries : goal.decreases-entries
decreases-entries g l = length l.left
