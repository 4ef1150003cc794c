-- The NSEC sets of a zone as they are made: the next name of a name, and the types that its record
-- lists (RFC 4034, section 4.1).
use Rattle.std.specs.Prelude.{◌≡◌, ℕ, ◌==◌, ◌&&◌, ◌||◌, Bool, true, false, not, List, [], ◌∷◌, Some}
use Rattle.std.specs.List.{list_any}
use Rattle.std.specs.Ordering.{is_eq}
use Rattle.std.specs.declared.cmp.Ordering.{Ordering}
use Rattle.zst_absence.specs.drd_denial.Between.{is_between}
use Rattle.zst_absence.specs.drd_denial.Nsec.{IsNsecData}
use Rattle.zst_absence.specs.dnw_codes.declared.dns_class.DNSClass.TheVariants.{IN}
use Rattle.zst_absence.specs.dnw_codes.declared.record_type.RecordType.{RecordType}
use Rattle.zst_absence.specs.dnw_codes.declared.record_type.RecordType.TheVariants as kind
use Rattle.zst_absence.specs.dnw_codes.RecordType.{record_type_number, same_record_type}
use Rattle.zst_absence.specs.dnw_name.DomainName.{DomainName, domain_name, lowercase_name, name_cmp}
use Rattle.zst_absence.specs.zst_denial.Circles.{IsAuthoritativeName, IsNsecSet, is_listed}
use Rattle.zst_absence.specs.zst_denial.Octets.{nsec_octets}
use Rattle.zst_absence.specs.zst_handler.Zones.{Zone}
use Rattle.zst_absence.specs.zst_record.RecordSets.{RRset}
use Rattle.zst_absence.specs.zst_record.declared.records.Record.{Record}
use Rattle.zst_circle.specs.Securing.{IsMadeAs, IsZoneAt}

-- ---- the next name
module _ {X : Type 0} (cmp : X → X → Ordering) where
  -- One of some values equals this one.
  abbrev pub is_among : List X → X → Bool
  is_among xs x = list_any (λ y. is_eq (cmp x y)) xs

  -- Of the values on a circle this one is next to an owner: none lies between.
  pub record IsNext (on_circle : X → Bool) (owner next : X) : Type 0 where
    pub on : on_circle next ≡ true
    pub none : (x : X) → on_circle x ≡ true → is_between cmp owner x next ≡ false

-- ---- the types
-- A type that is listed, by the sets of the owner, which may be a delegation.
abbrev pub is_nsec_type : List RRset → Bool → RecordType → Bool
is_nsec_type sets delegated t =
    same_record_type t kind.RRSIG || (same_record_type t kind.NSEC
    || (list_any (λ set. same_record_type set.record_type t) sets
    && (not delegated || (same_record_type t kind.NS || same_record_type t kind.DS))))

-- ---- the set
-- One record of class IN with the next name and these types, without signatures.
pub record IsNsecOf (owner next : DomainName) (types : List ℕ) (ttl : ℕ) (set : RRset) : Type 0
  where
    pub name : set.name ≡ owner
    pub record_type : set.record_type ≡ kind.NSEC
    pub class : set.dns_class ≡ IN
    pub only : Record
    pub one : set.records ≡ only ∷ []
    pub lasts : only.ttl ≡ ttl
    pub octets : List ℕ
    pub held : nsec_octets only.rdata ≡ Some octets
    pub are : IsNsecData octets (domain_name true next.labels) types
    pub bare : set.signatures ≡ []

-- The NSEC set of an authoritative name of a zone, as it is made.
abbrev pub IsNsecMade : ℕ → Zone → RRset → Type 0
IsNsecMade ttl zone set =
    IsAuthoritativeName kind.NSEC zone set.name × IsNsecSet zone set.name set
    × IsMadeAs kind.NSEC ttl set

-- The NSEC set of one of these names, in a zone of these sets at an origin with this key. The next
-- name is in lower case (RFC 4034, section 6.2).
pub record IsNsecIn (sets : List RRset) (origin : DomainName) (names : List DomainName) (ttl : ℕ)
    (owner : DomainName) (set : RRset) : Type 0 where
  pub next : DomainName
  pub follows : IsNext name_cmp (is_among name_cmp names) owner next
  pub lower : lowercase_name next ≡ next
  pub types : List ℕ
  pub lists : (zone : Zone) → IsZoneAt sets origin zone → (t : RecordType)
      → list_any (λ code. code == record_type_number t) types ≡ is_listed zone owner t
  pub is : IsNsecOf owner next types ttl set
