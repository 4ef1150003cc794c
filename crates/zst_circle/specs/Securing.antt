-- How a zone is secured: which names its circle has, which sets are signed, and what is made for it
-- (RFC 4035, sections 2.2 and 2.3; RFC 5155, section 7.1).
use Rattle.std.specs.Prelude.{◌≡◌, ℕ, ◌&&◌, Bool, true, false, List, length, nat_lt, None}
use Rattle.std.specs.List.{AllByRecursion, list_any}
use Rattle.std.specs.List.Sorted.{IsStrictlySortedBy}
use Rattle.zst_absence.specs.drd_denial.Rrsig.{Signing}
use Rattle.zst_absence.specs.dnw_codes.declared.dns_class.DNSClass.TheVariants.{IN}
use Rattle.zst_absence.specs.dnw_codes.declared.record_type.RecordType.{RecordType}
use Rattle.zst_absence.specs.dnw_codes.declared.record_type.RecordType.TheVariants as kind
use Rattle.zst_absence.specs.dnw_codes.RecordType.{same_record_type}
use Rattle.zst_absence.specs.dnw_name.DomainName.{DomainName, is_at_or_below, lowercase_name, name_cmp, name_eq}
use Rattle.zst_absence.specs.zst_denial.Circles.{IsAuthoritativeName, IsCutOff, is_delegation}
use Rattle.zst_absence.specs.zst_denial.Signing.{AreSignatures, any_fails, unsigned}
use Rattle.zst_absence.specs.zst_handler.Zones.{Zone, rrset_at}
use Rattle.zst_absence.specs.zst_record.RecordSets.{RRset, least_ttl}

-- A zone of these sets, whose origin has this key.
pub record IsZoneAt (sets : List RRset) (key : DomainName) (zone : Zone) : Type 0 where
  pub has_sets : zone.sets ≡ sets
  pub has_origin : lowercase_name zone.origin ≡ key

-- ---- which names are on a circle
-- A name is at or below another one and has more labels.
abbrev pub is_strictly_below : DomainName → DomainName → Bool
is_strictly_below name other =
    is_at_or_below name other && nat_lt (length other.labels) (length name.labels)

-- An owner in the zone which no delegation cuts off.
pub record IsAuthoritativeOwner (zone : Zone) (name : DomainName) : Type 0 where
  pub owns : list_any (λ set. name_eq name set.name) zone.sets ≡ true
  pub in_zone : is_at_or_below name zone.origin ≡ true
  pub uncut : IsCutOff zone name → ⊥

-- The authoritative names of a zone, each once, in canonical order and in lower case.
pub record AreAuthoritative (circle : RecordType) (zone : Zone) (names : List DomainName) :
    Type 0 where
  pub ordered : IsStrictlySortedBy name_cmp names
  pub lower : AllByRecursion (λ name. lowercase_name name ≡ name) names
  pub each : AllByRecursion (IsAuthoritativeName circle zone) names
  pub all : (name : DomainName) → IsAuthoritativeName circle zone name
      → list_any (name_eq name) names ≡ true

-- No owner has a set of this type.
abbrev pub HasNone : List RRset → RecordType → Type 0
HasNone sets t = (name : DomainName) → rrset_at sets name t ≡ None

-- ---- what is signed
-- A set of an authoritative name is signed; of a delegation DS and NSEC alone (RFC 4035, section
-- 2.2).
pub record IsToBeSigned (zone : Zone) (name : DomainName) (t : RecordType) : Type 0 where
  pub in_zone : is_at_or_below name zone.origin ≡ true
  pub uncut : IsCutOff zone name → ⊥
  pub kept : is_delegation zone name ≡ true → same_record_type t kind.DS ≡ true

module _ {K : Type 0} (gives : K → RRset → ℕ → Signing → Type 0) (keys : List K) (now : ℕ) where
  -- A set has one signature by each key, made of its records.
  abbrev pub IsSigned : RRset → Type 0
  IsSigned set = AreSignatures gives keys (unsigned set) now set.signatures

  -- A set made for the circle: of class IN, with this TTL, and signed.
  pub record IsMade (ttl : ℕ) (set : RRset) : Type 0 where
    pub class : set.dns_class ≡ IN
    pub lasts : least_ttl set.records ≡ ttl
    pub signed : IsSigned set

-- A set as it is made for the circle: of this type and class IN, and with this TTL.
pub record IsMadeAs (t : RecordType) (ttl : ℕ) (set : RRset) : Type 0 where
  pub record_type : set.record_type ≡ t
  pub class : set.dns_class ≡ IN
  pub lasts : least_ttl set.records ≡ ttl

-- Some key fails to sign a set of this kind.
pub record SomeFails {K : Type 0} (fails : K → RRset → ℕ → Bool) (keys : List K) (now : ℕ)
    (Is : RRset → Type 0) : Type 0 where
  pub set : RRset
  pub is : Is set
  pub failed : any_fails fails keys set now ≡ true

-- Sets of this type alone have changed.
abbrev pub ChangesOnly : RecordType → List RRset → List RRset → Type 0
ChangesOnly circle old new =
    (name : DomainName) (t : RecordType) → same_record_type circle t ≡ false
    → rrset_at new name t ≡ rrset_at old name t
