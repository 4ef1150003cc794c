-- Which NSEC records deny a name or a type (RFC 4035, section 3.1.3).
use Rattle.std.specs.Prelude.{◌⊎◌, ◌≡◌, ℕ, Bool, true, false, not, ◌&&◌, ◌==◌, List, [], ◌∷◌, ◌++◌, Option, Some, None, IsSome, option_map, if◌then◌else◌}
use Rattle.std.specs.List.{filter, list_any}
use Rattle.std.specs.Ordering.{is_gt, is_lt}
use Rattle.zst_handler.specs.Found.{above}
use Rattle.zst_handler.specs.Lookups.{listed}
use Rattle.zst_handler.specs.Zones.{Zone, exists_in, rrset_at}
use Rattle.zst_handler.specs.dnw_codes.declared.record_type.RecordType.{RecordType}
use Rattle.zst_handler.specs.dnw_codes.declared.record_type.RecordType.TheVariants as kind
use Rattle.zst_handler.specs.dnw_codes.RecordType.{record_type_number}
use Rattle.zst_handler.specs.dnw_name.DomainName.{DomainName, is_at_or_below, name_cmp, name_eq}
use Rattle.zst_handler.specs.zst_record.RecordSets.{RRset}
use Rattle.zst_handler.specs.zst_record.declared.records.Record.{Record}
use Rattle.zst_hash.specs.zst_key.Ancestors.{star}
use Rattle.drd_denial.specs.Between.{is_between}
use Rattle.drd_denial.specs.Nsec.{IsNsecData}
use Rattle.zst_denial.specs.Octets.{nsec_octets}

-- ---- what one record denies
-- A record has NSEC data.
pub record HasNsec (r : Record) (next : DomainName) (types : List ℕ) : Type 0 where
  pub octets : List ℕ
  pub held : nsec_octets r.rdata ≡ Some octets
  pub are : IsNsecData octets next types

-- It covers a name, which lies strictly between its owner and the next one.
pub record Covers (name : DomainName) (r : Record) : Type 0 where
  pub next : DomainName
  pub types : List ℕ
  pub nsec : HasNsec r next types
  pub between : is_between name_cmp r.name name next ≡ true

-- It is a name's own, and lists no such type.
pub record Lacks (name : DomainName) (t : RecordType) (r : Record) : Type 0 where
  pub next : DomainName
  pub types : List ℕ
  pub nsec : HasNsec r next types
  pub owner : name_eq r.name name ≡ true
  pub lacks : list_any (λ code. code == record_type_number t) types ≡ false

-- A set has one record, of which P holds.
pub record HasOne (P : Record → Type 0) (set : RRset) : Type 0 where
  pub only : Record
  pub one : set.records ≡ only ∷ []
  pub is : P only

-- P holds of one of them.
abbrev pub SomeOf : {X : Type 0} → (X → Type 0) → List X → Type 0
SomeOf P [] = ⊥
SomeOf P (x ∷ xs) = P x ⊎ SomeOf P xs

-- ---- which sets a zone shows
-- The zone has this set of a type.
pub record IsSetOf (zone : Zone) (t : RecordType) (set : RRset) : Type 0 where
  pub owner : DomainName
  pub there : rrset_at zone.sets owner t ≡ Some set

-- The set of a type for a name: its own, else that of the last owner before it in canonical order
-- (RFC 4034, section 6.1), else that of the last owner of all.
pub record IsPrecedingSet (zone : Zone) (of_type : RecordType) (name owner : DomainName)
    (set : RRset) : Type 0 where
  pub there : rrset_at zone.sets owner of_type ≡ Some set
  pub last : is_gt (name_cmp owner name) ≡ false → (other : DomainName)
      → IsSome (rrset_at zone.sets other of_type) → is_gt (name_cmp other name) ≡ false
      → is_lt (name_cmp owner other) ≡ false
  pub around : is_gt (name_cmp owner name) ≡ true → (other : DomainName)
      → IsSome (rrset_at zone.sets other of_type)
      → (is_gt (name_cmp other name) ≡ true) × (is_lt (name_cmp owner other) ≡ false)

-- The set for a name, or none where the zone has no set of the type.
abbrev pub Precedes : Zone → RecordType → DomainName → Option RRset → Type 0
Precedes zone of_type name None = (other : DomainName) → rrset_at zone.sets other of_type ≡ None
Precedes zone of_type name (Some set) =
    (owner : DomainName) × IsPrecedingSet zone of_type name owner set

-- A name in the zone that exists.
abbrev pub is_existing : Zone → DomainName → Bool
is_existing zone name = exists_in zone.sets name && is_at_or_below name zone.origin

-- The nearest name above in the zone that exists (RFC 5155, section 1.3, closest encloser).
abbrev pub encloser : Zone → DomainName → Option DomainName
encloser zone name =
    option_map (λ at. at.0) (above (λ n. if is_existing zone n then Some n else None) name)

-- Sets without those whose owner an earlier one has.
abbrev pub each_owner_once : List RRset → List RRset
each_owner_once [] = []
each_owner_once (set ∷ sets) =
    set ∷ filter (λ other. not (name_eq set.name other.name)) (each_owner_once sets)

-- The sets of a denial by NSEC: the one for the name, and the one for the wildcard at its closest
-- encloser (RFC 4035, sections 3.1.3.1 to 3.1.3.4).
pub record IsNsecDenial (zone : Zone) (name : DomainName) (sets : List RRset) : Type 0 where
  pub for_name : Option RRset
  pub own : Precedes zone kind.NSEC name for_name
  pub for_star : Option RRset
  pub wildcard : (e : DomainName) → encloser zone name ≡ Some e
      → Precedes zone kind.NSEC (star e) for_star
  pub no_wildcard : encloser zone name ≡ None → for_star ≡ None
  pub are : sets ≡ each_owner_once (listed for_name ++ listed for_star)
