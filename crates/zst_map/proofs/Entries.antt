-- A zone's sets as entries: each owner's key with its sets.
use Rattle.std.specs.Prelude.{ℕ, List}
use Rattle.std.specs.List.{AllByRecursion, flat_map}
use Rattle.std.specs.List.Sorted.{IsStrictlySortedBy}
use Rattle.std.specs.Ordering.{nat_cmp}
use Rattle.std.specs.Cmp.Lexicographic.{slice_cmp}
use Rattle.std.specs.Map.{keys_of}
use Rattle.zst_handler.specs.zst_record.RecordSets.{RRset}
use Rattle.zst_map.specs.ZoneMaps.{IsNode}

module _ {K V : Type 0} (octets : K → List ℕ) (sets : V → List RRset) where
  -- The zone's sets, by owner, then by type.
  abbrev pub sets_of : List (K × V) → List RRset
  sets_of entries = flat_map (λ entry. sets entry.1) entries

  -- Each entry is a node, and the keys rise.
  pub record IsZone (entries : List (K × V)) : Type 0 where
    pub nodes : AllByRecursion (λ entry. IsNode (octets entry.0) (sets entry.1)) entries
    pub ordered : IsStrictlySortedBy (λ a b. slice_cmp nat_cmp (octets a) (octets b))
        (keys_of entries)
