-- Owners in order, the first one next to the last (RFC 4034, section 4.1.1).
use Rattle.std.specs.Prelude.{Bool, not, ◌&&◌, ◌||◌}
use Rattle.std.specs.Ordering.{is_eq, is_lt}
use Rattle.std.specs.declared.cmp.Ordering.{Ordering}
use Rattle.std.specs.declared.cmp.Ordering.TheVariants.{Less, Equal, Greater}

-- By the order of an owner and the next one. Less: a value lies after the owner and before the next
-- one. Greater, so the owner is the last one: after the owner, or before the next one. Equal, so it
-- is the only one: apart from it.
abbrev pub between_by : Ordering → Bool → Bool → Bool → Bool
between_by Less after before apart = after && before
between_by Greater after before apart = after || before
between_by Equal after before apart = apart

-- A value lies strictly between an owner and the next one.
abbrev pub is_between : {X : Type 0} → (X → X → Ordering) → X → X → X → Bool
is_between cmp owner value next =
    between_by (cmp owner next) (is_lt (cmp owner value)) (is_lt (cmp value next))
    (not (is_eq (cmp owner value)))
