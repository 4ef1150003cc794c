-- Which set of a type precedes a name where the owners of such sets are on a circle: the first
-- follows the last (RFC 4034, section 4.1.1).
use Rattle.std.specs.Prelude.{◌≡◌, true, false, ◌++◌, List, ◌∷◌, Option, Some, None, IsSome}
use Rattle.std.specs.List.{AllByRecursion}
use Rattle.std.specs.Ordering.{is_gt, is_lt}
use Rattle.zst_handler.specs.dnw_codes.declared.record_type.RecordType.{RecordType}
use Rattle.zst_handler.specs.dnw_name.DomainName.{DomainName, name_cmp}
use Rattle.zst_handler.specs.zst_record.RecordSets.{RRset}
use Rattle.zst_handler.specs.Zones.{rrset_at}

-- Its owner is the last that isn't after the name; where all owners are after it, the last of all.
pub record IsPreceding (sets : List RRset) (of_type : RecordType) (name owner : DomainName)
    (set : RRset) : Type 0 where
  pub there : rrset_at sets owner of_type ≡ Some set
  pub last : is_gt (name_cmp owner name) ≡ false → (other : DomainName)
      → IsSome (rrset_at sets other of_type) → is_gt (name_cmp other name) ≡ false
      → is_lt (name_cmp owner other) ≡ false
  pub around : is_gt (name_cmp owner name) ≡ true → (other : DomainName)
      → IsSome (rrset_at sets other of_type)
      → (is_gt (name_cmp other name) ≡ true) × (is_lt (name_cmp owner other) ≡ false)

-- The one that precedes a name is found; none where no name owns such a set.
abbrev pub FindsPreceding : List RRset → RecordType → DomainName → Option RRset → Type 0
FindsPreceding sets of_type name None =
    (other : DomainName) → rrset_at sets other of_type ≡ None
FindsPreceding sets of_type name (Some set) =
    (owner : DomainName) × IsPreceding sets of_type name owner set

-- Of some names, in order, the last that owns a set of the type owns this one.
pub record IsLastOwned (sets : List RRset) (of_type : RecordType)
    (names : List (DomainName × Unit {0})) (set : RRset) : Type 0 where
  pub before : List (DomainName × Unit {0})
  pub owner : DomainName × Unit {0}
  pub after : List (DomainName × Unit {0})
  pub are : names ≡ before ++ owner ∷ after
  pub there : rrset_at sets owner.0 of_type ≡ Some set
  pub none : AllByRecursion (λ name. rrset_at sets name.0 of_type ≡ None) after

abbrev pub FindsLast : List RRset → RecordType → List (DomainName × Unit {0}) → Option RRset
    → Type 0
FindsLast sets of_type names None =
    AllByRecursion (λ name. rrset_at sets name.0 of_type ≡ None) names
FindsLast sets of_type names (Some set) = IsLastOwned sets of_type names set
