-- How a zone's sets stand in its map: under each owner's key, the owner's sets by rising type.
use Rattle.std.specs.Prelude.{◌≡◌, ℕ, ◌+◌, ◌<◌, ◌&&◌, Bool, List, [], ◌∷◌, length, if◌then◌else◌, nat_lt, ◌==◌, Option, Some, None, IsSome, Result, Ok, Err}
use Rattle.std.specs.Bool.{beq}
use Rattle.std.specs.List.{AllByRecursion, list_any}
use Rattle.std.specs.List.Sorted.{IsStrictlySortedBy}
use Rattle.std.specs.BTreeMap.{BTreeMap, get}
use Rattle.std.specs.HashMap.{HashMap}
use Rattle.std.specs.HashMap.{get as hashed}
use Rattle.std.specs.Map.{keys_of}
use Rattle.zst_handler.specs.dnw_name.DomainName.{DomainName, is_at_or_below, name_cmp, name_eq}
use Rattle.zst_handler.specs.dnw_codes.RecordType.{record_type_number}
use Rattle.zst_key.specs.NameKeys.{name_key}
use Rattle.zst_handler.specs.zst_record.RecordSets.{RRset}
use Rattle.zst_handler.specs.zst_record.declared.one_or_many.OneOrMany.{OneOrMany}
use Rattle.zst_handler.specs.Lookups.{sets_of_name}
use Rattle.zst_handler.specs.Stores.{held}
use Rattle.zst_map.specs.declared.map.Place.{Place}

-- The set's owner has this key.
pub record IsOwnedAt (key : List ℕ) (set : RRset) : Type 0 where
  pub owner : name_key set.name ≡ key

-- Whether an owner equals a name or lies below it, where both end at the root or neither does.
abbrev pub exists_alike : List RRset → DomainName → Bool
exists_alike sets name =
    list_any (λ set. beq set.name.fqdn name.fqdn && is_at_or_below set.name name) sets

-- The owners of sets, in canonical order (RFC 4034, section 6.1), each once.
pub record AreOwners (sets : List RRset) (names : List DomainName) : Type 0 where
  pub ordered : IsStrictlySortedBy name_cmp names
  pub each : (name : DomainName) → list_any (name_eq name) names
      ≡ list_any (λ set. name_eq name set.name) sets

-- This stands at the name: all its sets, and whether it exists so.
pub record IsPlace (sets : List RRset) (name : DomainName) (place : Place) : Type 0 where
  pub sets_are : place.sets.now ≡ sets_of_name sets name
  pub exists_is : place.exists ≡ exists_alike sets name

-- The sets of a name, if it owns some.
abbrev pub some_sets : List RRset → Option (List RRset)
some_sets [] = None
some_sets (set ∷ sets) = Some (set ∷ sets)

-- The sets of a name that owns some.
abbrev pub owned : List RRset → DomainName → Option (List RRset)
owned sets name = some_sets (sets_of_name sets name)

-- Each type is above those before it.
abbrev pub TypesRise : List RRset → Type 0
TypesRise [] = Unit {0}
TypesRise (set ∷ sets) =
    AllByRecursion
    (λ later. record_type_number set.record_type < record_type_number later.record_type) sets
    × TypesRise sets

-- What stands under a key: at least one set, the sets of the owner of that key, by rising type.
pub record IsNode (key : List ℕ) (sets : List RRset) : Type 0 where
  pub filled : 0 < length sets
  pub owned : AllByRecursion (IsOwnedAt key) sets
  pub rise : TypesRise sets

-- The place of the set of a type (Ok), or where it would go (Err), in sets that start at a place.
abbrev pub place_from : ℕ → List RRset → ℕ → Result ℕ ℕ
place_from i [] code = Err i
place_from i (set ∷ sets) code =
    if nat_lt (record_type_number set.record_type) code then place_from (i + 1) sets code
    else if record_type_number set.record_type == code then Ok i else Err i

module _ {S : Type 0} where
  -- The owners, in order, are the names under whose keys something stands: for each its node.
  pub record IsKept (owners : BTreeMap DomainName (Unit {0}))
      (nodes : HashMap DomainName (OneOrMany RRset) S) : Type 0 where
    pub known : (name : DomainName) → IsSome (hashed name_eq nodes name)
        → IsSome (get name_cmp owners name)
    pub each : (name : DomainName) → IsSome (get name_cmp owners name)
        → IsNode (name_key name) (held nodes name)
    pub ordered : IsStrictlySortedBy name_cmp (keys_of owners.entries)
