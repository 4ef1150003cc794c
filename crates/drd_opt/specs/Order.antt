-- The order of OPT data (RFC 4034 6.3). Their options stand in no order that matters, so they are
-- put in order first.
use Rattle.std.specs.Prelude.{◌≡◌, ℕ, ◌<◌, cond, Option, Some, None, Bool, true, false, List, [], ◌∷◌, map}
use Rattle.std.specs.Cmp.Lexicographic.{slice_cmp}
use Rattle.std.specs.List.{count_by}
use Rattle.std.specs.Ordering.{on, then_cmp, nat_cmp, is_gt, is_lt}
use Rattle.std.specs.declared.cmp.Ordering.{Ordering}
use Rattle.drd_opt.specs.Options.{counted_cmp}
use Rattle.drd_fields.specs.Order.{octets_cmp}
use Rattle.drd_opt.specs.Entries.{Entry, RawOption, raw_of, raw_octets, options_octets}
use Rattle.drd_opt.specs.Equality.{same_raw}

-- Values in rising order, each as often as before: one more is put in before the first that it
-- doesn't stand above.
abbrev pub insert_by : {X : Type 0} → (X → X → Ordering) → X → List X → List X
insert_by R x [] = x ∷ []
insert_by R x (y ∷ ys) = cond (is_gt (R x y)) (y ∷ insert_by R x ys) (x ∷ y ∷ ys)

abbrev pub sorted_by : {X : Type 0} → (X → X → Ordering) → List X → List X
sorted_by R [] = []
sorted_by R (x ∷ xs) = insert_by R x (sorted_by R xs)

-- The canonical octets: those of the options, one behind the other, in the order of their octets.
abbrev pub canonical_entries : List Entry → List ℕ
canonical_entries entries =
    options_octets (sorted_by (on raw_octets octets_cmp) (map raw_of entries))

-- Options by their codes, then by the number of their octets, then by these from the left. Where 16
-- bits hold the numbers this is the order of what is written of them.
abbrev pub raw_cmp : RawOption → RawOption → Ordering
raw_cmp = then_cmp (on (λ r. r.code) nat_cmp) (on (λ r. r.octets) counted_cmp)

abbrev pub sorted_raws : List Entry → List RawOption
sorted_raws entries = sorted_by raw_cmp (map raw_of entries)

-- Entries with their options in order, the first that differ deciding.
abbrev pub entries_cmp : List Entry → List Entry → Ordering
entries_cmp = on sorted_raws (slice_cmp raw_cmp)

-- An option stands before another, if there is one.
abbrev pub is_below : RawOption → Option RawOption → Bool
is_below x None = true
is_below x (Some y) = is_lt (raw_cmp x y)

-- An option stands more often in the first list.
abbrev pub IsMore : List RawOption → List RawOption → RawOption → Type 0
IsMore xs ys x = count_by (same_raw x) ys < count_by (same_raw x) xs

-- The least option, among some, that stands more often in the first list; or there is none among
-- them.
abbrev pub IsLeastMore : List RawOption → List RawOption → List RawOption → Option RawOption
    → Type 0
IsLeastMore among xs ys None =
    (x : RawOption) → 0 < count_by (same_raw x) among → IsMore xs ys x → ⊥
IsLeastMore among xs ys (Some least) =
    IsMore xs ys least
    × ((x : RawOption) → 0 < count_by (same_raw x) among → IsMore xs ys x
    → is_gt (raw_cmp least x) ≡ false)
