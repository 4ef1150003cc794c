-- The records that a reply takes from an iterator, which may be endless.
use Rattle.std.specs.Prelude.{◌≡◌, ◌≤◌, ◌⊎◌, List, [], ◌∷◌, length, Option, Some, None}
use Rattle.std.specs.Iterator.{AlwaysYields}

-- The items of an iterator begin with these, whatever follows. It takes the iterator's `next_gives`,
-- and what an item is.
abbrev pub StartsWith : {I Y X : Type 0} → (I → Option Y → I → Type 0) → (Y → X) → I → List X
    → Type 0
StartsWith gives of iter [] = Unit {0}
StartsWith {I} {Y} gives of iter (x ∷ xs) =
    ((next : I) → gives iter None next → ⊥)
    × ((y : Y) (next : I) → gives iter (Some y) next → (of y ≡ x) × StartsWith gives of next xs)

-- An iterator supplies these: it gives them and then none; or it gives them and goes on, maybe
-- without end, and they are 65,535 or more, which no reply holds.
abbrev pub Supplies : {I Y X : Type 0} → (I → Option Y → I → Type 0) → (Y → X) → I → List X
    → Type 0
Supplies gives of iter xs =
    AlwaysYields gives of iter xs ⊎ ((65535 ≤ length xs) × StartsWith gives of iter xs)
