-- The names of a zone whose NSEC3 records form a circle by their digests (RFC 5155, sections 1.3,
-- 3 and 7.1).
use Rattle.std.specs.Prelude.{◌≡◌, ℕ, ◌<◌, ◌^◌, Bool, true, false, not, ◌&&◌, ◌||◌, ◌==◌, List, [], ◌∷◌, cond, Some, IsSome, IsSomeAnd, if◌then◌else◌}
use Rattle.std.specs.List.{list_any}
use Rattle.zst_handler.specs.Zones.{Zone, rrset_at}
use Rattle.zst_handler.specs.dnw_codes.declared.record_type.RecordType.{RecordType}
use Rattle.zst_handler.specs.dnw_codes.declared.record_type.RecordType.TheVariants as kind
use Rattle.zst_handler.specs.dnw_codes.RecordType.{record_type_number, same_record_type}
use Rattle.zst_handler.specs.dnw_name.DomainName.{DomainName, is_at_or_below, name_cmp, name_eq}
use Rattle.zst_handler.specs.zst_record.RecordSets.{RRset}
use Rattle.zst_handler.specs.zst_record.declared.records.Record.{Record}
use Rattle.zst_hash.specs.Digests.{nsec3_digest}
use Rattle.zst_hash.specs.Owners.{hashed_owner}
use Rattle.drd_denial.specs.Between.{is_between}
use Rattle.drd_denial.specs.Nsec3.{IsNsec3Data, parameter_octets}
use Rattle.zst_denial.specs.Circles.{IsAuthoritativeName, is_delegation, is_owned}
use Rattle.zst_denial.specs.Octets.{octets_of}

-- How names are hashed (RFC 5155, sections 3.1.3 and 3.1.5).
pub record Hashing : Type 0 where
  pub salt : List ℕ
  pub iterations : ℕ

abbrev pub digest_of : Hashing → DomainName → List ℕ
digest_of by name = nsec3_digest by.salt by.iterations name

-- The owner of a name's NSEC3 set. Digests are in the order of these owners (section 1.3, hash
-- order).
abbrev pub hashed_name : Hashing → Zone → DomainName → DomainName
hashed_name by zone name = hashed_owner (digest_of by name) zone.origin

-- ---- which names are on the circle
-- An authoritative name or one above it in the zone, but with opt-out no delegation without DS
-- (sections 6 and 7.1).
pub record IsOnHashCircle (opt_out : Bool) (zone : Zone) (name : DomainName) : Type 0 where
  pub below : DomainName
  pub on : IsAuthoritativeName kind.NSEC3 zone below
  pub above : is_at_or_below below name ≡ true
  pub flags : below.fqdn ≡ name.fqdn
  pub in_zone : is_at_or_below name zone.origin ≡ true
  pub kept : opt_out ≡ true → is_delegation zone name ≡ true
      → IsSome (rrset_at zone.sets name kind.DS)

-- Names on the circle have different digests.
abbrev pub AreApart : Hashing → Bool → Zone → Type 0
AreApart by opt_out zone =
    (name other : DomainName) → IsOnHashCircle opt_out zone name
    → IsOnHashCircle opt_out zone other → digest_of by name ≡ digest_of by other
    → name_eq name other ≡ true

-- The name of the next digest: none on the circle lies between.
pub record FollowsByHash (by : Hashing) (opt_out : Bool) (zone : Zone) (name next : DomainName) :
    Type 0 where
  pub on : IsOnHashCircle opt_out zone next
  pub none : (other : DomainName) → IsOnHashCircle opt_out zone other
      → is_between name_cmp (hashed_name by zone name) (hashed_name by zone other)
      (hashed_name by zone next)
      ≡ false

-- ---- what each of them owns
-- A name owns a set of another type than NSEC3.
abbrev pub owns_others : Zone → DomainName → Bool
owns_others zone name =
    list_any
    (λ set. name_eq name set.name && not (same_record_type set.record_type kind.NSEC3)) zone.sets

-- The types that the NSEC3 record of a delegation lists: NS, DS, and RRSIG where there is DS.
abbrev pub is_listed_of_delegation : Zone → DomainName → RecordType → Bool
is_listed_of_delegation zone name t =
    ((same_record_type t kind.NS || same_record_type t kind.DS) && is_owned zone name t)
    || (same_record_type t kind.RRSIG && is_owned zone name kind.DS)

-- The types that an NSEC3 record lists: those that its name owns, but no NSEC3, and RRSIG where it
-- owns any (RFC 5155, sections 3.2.1 and 7.1).
abbrev pub is_listed_by_hash : Zone → DomainName → RecordType → Bool
is_listed_by_hash zone name t =
    if is_delegation zone name then is_listed_of_delegation zone name t
    else ((is_owned zone name t && not (same_record_type t kind.NSEC3))
    || (same_record_type t kind.RRSIG && owns_others zone name))

-- The NSEC3 set of a name: one record, of the next digest and of these types. Its flag says
-- opt-out (section 3.1.2.1).
pub record IsNsec3Set (by : Hashing) (opt_out : Bool) (zone : Zone) (name : DomainName)
    (set : RRset) : Type 0 where
  pub only : Record
  pub one : set.records ≡ only ∷ []
  pub octets : List ℕ
  pub held : octets_of kind.NSEC3 only.rdata ≡ Some octets
  pub following : DomainName
  pub types : List ℕ
  pub are : IsNsec3Data octets (cond opt_out 1 0) by.iterations by.salt (digest_of by following)
      types
  pub follows : FollowsByHash by opt_out zone name following
  pub lists : (t : RecordType) → record_type_number t < 2 ^ 16
      → list_any (λ code. code == record_type_number t) types ≡ is_listed_by_hash zone name t

-- The NSEC3PARAM set: one record, without flags (section 4).
pub record IsParameterSet (by : Hashing) (set : RRset) : Type 0 where
  pub only : Record
  pub one : set.records ≡ only ∷ []
  pub held : octets_of kind.NSEC3PARAM only.rdata ≡ Some (parameter_octets 0 by.iterations by.salt)

-- A zone is secured by NSEC3: exactly the digests of the names on the circle own an NSEC3 set, each
-- the one of the next digest, and the origin owns the NSEC3PARAM set.
pub record IsSecuredByHash (by : Hashing) (opt_out : Bool) (zone : Zone) : Type 0 where
  pub each : (name : DomainName) → IsOnHashCircle opt_out zone name
      → IsSomeAnd (rrset_at zone.sets (hashed_name by zone name) kind.NSEC3)
      (IsNsec3Set by opt_out zone name)
  pub only : (owner : DomainName) → IsSome (rrset_at zone.sets owner kind.NSEC3)
      → (name : DomainName) × IsOnHashCircle opt_out zone name
      × (name_eq owner (hashed_name by zone name) ≡ true)
  pub parameters : IsSomeAnd (rrset_at zone.sets zone.origin kind.NSEC3PARAM) (IsParameterSet by)
