-- The NSEC3 sets of a zone as they are made: the digests on the circle, the next digest of each,
-- and the types that its record lists (RFC 5155, sections 3 and 7.1).
use Rattle.std.specs.Prelude.{◌≡◌, ℕ, ◌+◌, ◌-◌, ◌<◌, ◌==◌, ◌&&◌, ◌||◌, Bool, true, false, not, List, [], ◌∷◌, cond, length, nat_lt, slice_get, Some, if◌then◌else◌}
use Rattle.std.specs.BTreeMap.{insert_entry}
use Rattle.std.specs.Bool.{beq}
use Rattle.std.specs.List.{AllByRecursion, list_any}
use Rattle.std.specs.Ordering.{is_eq, on}
use Rattle.std.specs.declared.cmp.Ordering.{Ordering}
use Rattle.zst_absence.specs.drd_denial.Nsec3.{IsNsec3Data, parameter_octets}
use Rattle.zst_absence.specs.dnw_codes.declared.dns_class.DNSClass.TheVariants.{IN}
use Rattle.zst_absence.specs.dnw_codes.declared.record_type.RecordType.{RecordType}
use Rattle.zst_absence.specs.dnw_codes.declared.record_type.RecordType.TheVariants as kind
use Rattle.zst_absence.specs.dnw_codes.RecordType.{record_type_number, same_record_type}
use Rattle.zst_absence.specs.dnw_name.DomainName.{DomainName, is_at_or_below, lowercase_name, name_cmp, name_eq}
use Rattle.zst_absence.specs.zst_denial.Circles.{is_delegation, is_owned}
use Rattle.zst_absence.specs.zst_denial.Hashed.{Hashing, IsNsec3Set, IsOnHashCircle, digest_of, hashed_name, is_listed_by_hash}
use Rattle.zst_absence.specs.zst_denial.Octets.{octets_of}
use Rattle.zst_absence.specs.zst_handler.Zones.{Zone}
use Rattle.zst_absence.specs.zst_hash.Owners.{hashed_owner}
use Rattle.zst_absence.specs.zst_key.Ancestors.{up}
use Rattle.zst_absence.specs.zst_record.RecordSets.{RRset}
use Rattle.zst_absence.specs.zst_record.declared.records.Record.{Record}
use Rattle.zst_circle.specs.NsecCircle.{IsNext, is_among}
use Rattle.zst_circle.specs.Securing.{IsMadeAs, IsZoneAt}
use Rattle.zst_circle.specs.declared.hashed.HashedName.{HashedName}
use Rattle.zst_circle.specs.declared.hashed.Nsec3Parameters.{Nsec3Parameters}

abbrev pub hashing_of : Nsec3Parameters → Hashing
hashing_of by = record { salt = by.salt.now; iterations = by.iterations }

-- ---- which digests are on the circle
-- How many names there are from a name up to the origin.
abbrev pub level_count : DomainName → DomainName → ℕ
level_count origin name = length name.labels - length origin.labels + 1

-- A name is at or below another one, and both end at the root or neither does.
abbrev pub is_level_of : DomainName → DomainName → Bool
is_level_of name above = beq name.fqdn above.fqdn && is_at_or_below name above

-- With opt-out, a delegation without DS isn't on the circle (section 6).
abbrev pub is_left_out : Bool → Zone → DomainName → Bool
is_left_out opt_out zone name =
    opt_out && (is_delegation zone name && not (is_owned zone name kind.DS))

-- A name by its key, with its digest.
abbrev pub with_digest : Hashing → DomainName → HashedName
with_digest by name = record { key = lowercase_name name; digest = digest_of by name }

-- A name on the circle, with its digest.
pub record IsHashedName (by : Hashing) (opt_out : Bool) (zone : Zone) (name : HashedName) : Type 0
  where
    pub on : IsOnHashCircle opt_out zone name.key
    pub digest : name.digest ≡ digest_of by name.key

-- The digest of a name is that of an entry, which is kept by the key of its hashed owner.
abbrev pub has_digest : Hashing → DomainName → List (DomainName × HashedName) → DomainName → Bool
has_digest by origin entries name =
    list_any (λ e. is_eq (name_cmp (hashed_owner (digest_of by name) origin) e.0)) entries

module _ (by : Hashing) (opt_out : Bool) (zone : Zone) (origin : DomainName) where
  -- Entries with one name more, unless opt-out leaves it out.
  abbrev pub entries_with : List (DomainName × HashedName) → DomainName
      → List (DomainName × HashedName)
  entries_with entries name =
      if is_left_out opt_out zone name then entries
      else insert_entry name_cmp entries (lowercase_name (hashed_owner (digest_of by name) origin))
      (with_digest by name)

  -- Entries of names on the circle, among them the digests of these names and of those above them
  -- up to the origin.
  pub record AreGathered (names : List DomainName) (entries : List (DomainName × HashedName)) :
      Type 0 where
    pub each : AllByRecursion
        (λ e. (name_eq (hashed_owner e.1.digest origin) e.0 ≡ true)
        × IsHashedName by opt_out zone e.1)
        entries
    pub all : AllByRecursion
        (λ name. (n : ℕ) → n < level_count zone.origin name
        → is_left_out opt_out zone (up name n) ≡ false
        → has_digest by origin entries (up name n) ≡ true)
        names

-- The order of digests, by their owners (section 1.3, hash order).
abbrev pub hash_cmp : DomainName → HashedName → HashedName → Ordering
hash_cmp origin = on (λ name. hashed_owner name.digest origin) name_cmp

-- Names on the circle with their digests, and all of its digests.
pub record AreHashed (by : Hashing) (opt_out : Bool) (zone : Zone) (origin : DomainName)
    (names : List HashedName) : Type 0 where
  pub each : AllByRecursion (IsHashedName by opt_out zone) names
  pub all : (name : DomainName) → IsOnHashCircle opt_out zone name
      → list_any (λ other. name_eq (hashed_owner (digest_of by name) origin)
      (hashed_owner other.digest origin)) names
      ≡ true

-- The place after another one; after the last one comes the first.
abbrev pub next_place : ℕ → ℕ → ℕ
next_place count place = if nat_lt (place + 1) count then place + 1 else 0

-- ---- the types
-- Of a delegation NS and DS are listed, else any type but NSEC3.
abbrev pub is_kept_type : Bool → RecordType → Bool
is_kept_type delegated t =
    if delegated then (same_record_type t kind.NS || same_record_type t kind.DS)
    else not (same_record_type t kind.NSEC3)

-- Of a delegation DS is signed, else any type but NSEC3.
abbrev pub is_signed_type : Bool → RecordType → Bool
is_signed_type delegated t =
    if delegated then same_record_type t kind.DS else not (same_record_type t kind.NSEC3)

-- A type that is listed, by the sets of the name, which may be a delegation.
abbrev pub is_nsec3_type : List RRset → Bool → RecordType → Bool
is_nsec3_type sets delegated t =
    list_any
    (λ set. same_record_type set.record_type t && is_kept_type delegated set.record_type) sets
    || (same_record_type t kind.RRSIG
    && list_any (λ set. is_signed_type delegated set.record_type) sets)

-- ---- the sets
-- One record of class IN with these octets of a type, without signatures.
pub record IsSetWith (owner : DomainName) (t : RecordType) (ttl : ℕ) (octets : List ℕ) (set : RRset)
    : Type 0 where
  pub name : set.name ≡ owner
  pub record_type : set.record_type ≡ t
  pub class : set.dns_class ≡ IN
  pub only : Record
  pub one : set.records ≡ only ∷ []
  pub lasts : only.ttl ≡ ttl
  pub held : octets_of t only.rdata ≡ Some octets
  pub bare : set.signatures ≡ []

-- The NSEC3PARAM set of an origin, without signatures (section 4).
abbrev pub IsParametersOf : Hashing → DomainName → ℕ → RRset → Type 0
IsParametersOf by origin ttl set =
    IsSetWith origin kind.NSEC3PARAM ttl (parameter_octets 0 by.iterations by.salt) set

-- The NSEC3 set of one of these names, in a zone of these sets at an origin with this key.
pub record IsNsec3In (by : Hashing) (opt_out : Bool) (sets : List RRset) (key origin : DomainName)
    (names : List HashedName) (ttl : ℕ) (name : HashedName) (set : RRset) : Type 0 where
  pub place : ℕ
  pub next : HashedName
  pub there : slice_get names place ≡ Some next
  pub follows : IsNext (hash_cmp origin) (is_among (hash_cmp origin) names) name next
  pub types : List ℕ
  pub lists : (zone : Zone) → IsZoneAt sets key zone → (t : RecordType)
      → list_any (λ code. code == record_type_number t) types ≡ is_listed_by_hash zone name.key t
  pub octets : List ℕ
  pub are : IsNsec3Data octets (cond opt_out 1 0) by.iterations by.salt next.digest types
  pub is : IsSetWith (hashed_owner name.digest origin) kind.NSEC3 ttl octets set

-- The NSEC3 set of some name on the circle.
pub record IsNsec3SetOn (by : Hashing) (opt_out : Bool) (zone : Zone) (set : RRset) : Type 0 where
  pub name : DomainName
  pub on : IsOnHashCircle opt_out zone name
  pub owner : name_eq set.name (hashed_name by zone name) ≡ true
  pub is : IsNsec3Set by opt_out zone name set

-- It is as it is made.
abbrev pub IsNsec3Made : Hashing → Bool → ℕ → Zone → RRset → Type 0
IsNsec3Made by opt_out ttl zone set =
    IsNsec3SetOn by opt_out zone set × IsMadeAs kind.NSEC3 ttl set
