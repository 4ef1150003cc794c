-- Prefixes: the first bits of addresses (RFC 4632 3.1, RFC 4291 2.3).
use Rattle.std.specs.Prelude.{ℕ, max, ◌-◌, ◌/◌, ◌^◌, ◌==◌, Bool, true, false, List, [], ◌∷◌, Option, map, filter}
use Rattle.std.specs.List.{list_any, reduce}
use Rattle.std.specs.Ordering.{nat_cmp, ordering_then}
use Rattle.std.specs.BTreeMap.{is_at}
use Rattle.std.specs.BTreeSet.{insert_key}
use Rattle.std.specs.declared.cmp.Ordering.{Ordering}
use Rattle.zsv_access.specs.declared.prefix_set.Prefix.{Prefix}

-- The first bits, so many, of an address of width bits.
abbrev pub prefix_of : ℕ → ℕ → ℕ → Prefix
prefix_of width addr len = record { len = len; bits = addr / 2 ^ (width - len) }

-- Whether the address, of width bits, begins with the prefix.
abbrev pub begins_with : ℕ → ℕ → Prefix → Bool
begins_with width addr prefix = addr / 2 ^ (width - prefix.len) == prefix.bits

-- By their lengths, and then by their bits.
abbrev pub prefix_cmp : Prefix → Prefix → Ordering
prefix_cmp p q = ordering_then (nat_cmp p.len q.len) (nat_cmp p.bits q.bits)

-- Whether the prefix is one of these.
abbrev pub has_prefix : List Prefix → Prefix → Bool
has_prefix prefixes prefix = list_any (is_at (prefix_cmp prefix)) prefixes

-- How long the longest of these prefixes is with which the address begins (RFC 4632 5.1).
abbrev pub longest : ℕ → ℕ → List Prefix → Option ℕ
longest width addr prefixes =
    reduce max (map (λ prefix. prefix.len) (filter (begins_with width addr) prefixes))

-- The prefixes with this one in its place, unless it is there.
abbrev pub with_prefix : List Prefix → Prefix → List Prefix
with_prefix prefixes prefix = insert_key prefix_cmp prefixes prefix

abbrev pub is_empty : List Prefix → Bool
is_empty [] = true
is_empty (prefix ∷ prefixes) = false
