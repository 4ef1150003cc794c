use Rattle.std.proofs.Common.{◌≡◌, drop}
use Rattle.std.specs.List.{list_any}
use Rattle.zst_circle.specs.Nsec3Circle.{is_signed_type}
use Rattle.zst_circle.proofs.hash_types.has_signed_type.Given as goal

abbrev pub invariant-sets : goal.invariant-sets
invariant-sets l =
    list_any (λ set. is_signed_type l.fn.delegated set.record_type) l.sets ≡ list_any (λ set. is_signed_type l.fn.delegated set.record_type) (drop l.set-index l.sets)
