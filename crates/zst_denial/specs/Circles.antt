-- The names of a zone whose NSEC records form a circle, each with the next one (RFC 4034, sections
-- 4.1 and 6.1; RFC 4035, section 2.3).
use Rattle.std.specs.Prelude.{◌≡◌, ℕ, ◌<◌, ◌^◌, Bool, true, false, not, ◌&&◌, ◌||◌, ◌==◌, List, [], ◌∷◌, length, nat_lt, Some, IsSome, IsSomeAnd, is_some}
use Rattle.std.specs.Cmp.Lexicographic.{pointwise}
use Rattle.std.specs.List.{list_any}
use Rattle.zst_handler.specs.Zones.{Zone, rrset_at}
use Rattle.zst_handler.specs.dnw_codes.declared.record_type.RecordType.{RecordType}
use Rattle.zst_handler.specs.dnw_codes.declared.record_type.RecordType.TheVariants as kind
use Rattle.zst_handler.specs.dnw_codes.RecordType.{record_type_number, same_record_type}
use Rattle.zst_handler.specs.dnw_name.DomainName.{DomainName, is_at_or_below, name_cmp}
use Rattle.zst_handler.specs.zst_record.RecordSets.{RRset}
use Rattle.zst_handler.specs.zst_record.declared.records.Record.{Record}
use Rattle.zst_hash.specs.dnw_label.Label.{label_eq}
use Rattle.zst_hash.specs.zst_key.Ancestors.{up}
use Rattle.drd_denial.specs.Between.{is_between}
use Rattle.drd_denial.specs.Nsec.{IsNsecData}
use Rattle.zst_denial.specs.Octets.{nsec_octets}

-- ---- which names are on the circle
-- A name owns a set of a type.
abbrev pub is_owned : Zone → DomainName → RecordType → Bool
is_owned zone name t = is_some (rrset_at zone.sets name t)

-- A name lies below the zone's origin.
abbrev pub is_below_origin : Zone → DomainName → Bool
is_below_origin zone name =
    is_at_or_below name zone.origin && nat_lt (length zone.origin.labels) (length name.labels)

-- A name is delegated to the name servers that it owns (RFC 1034, section 4.2.1).
abbrev pub is_delegation : Zone → DomainName → Bool
is_delegation zone name = is_below_origin zone name && is_owned zone name kind.NS

-- A name lies below a delegation: what it owns is glue, or another zone's.
pub record IsCutOff (zone : Zone) (name : DomainName) : Type 0 where
  pub levels : ℕ
  pub proper : 0 < levels
  pub cut : is_delegation zone (up name levels) ≡ true

-- An owner in the zone of a set of another type than the circle's, which no delegation cuts off.
pub record IsAuthoritativeName (circle : RecordType) (zone : Zone) (name : DomainName) : Type 0
  where
    pub record_type : RecordType
    pub other : same_record_type record_type circle ≡ false
    pub owns : IsSome (rrset_at zone.sets name record_type)
    pub in_zone : is_at_or_below name zone.origin ≡ true
    pub uncut : IsCutOff zone name → ⊥

-- The next authoritative name: none lies between.
pub record Follows (circle : RecordType) (zone : Zone) (owner next : DomainName) : Type 0 where
  pub on : IsAuthoritativeName circle zone next
  pub none : (name : DomainName) → IsAuthoritativeName circle zone name
      → is_between name_cmp owner name next ≡ false

-- ---- what each of them owns
-- The types that an NSEC record lists: those that its owner has, with NSEC and RRSIG (RFC 4034,
-- section 4.1.2); of a delegation those of the parent's side alone (RFC 4035, section 2.3).
abbrev pub is_listed : Zone → DomainName → RecordType → Bool
is_listed zone name t =
    same_record_type t kind.RRSIG || (same_record_type t kind.NSEC || (is_owned zone name t
    && (not (is_delegation zone name)
    || (same_record_type t kind.NS || same_record_type t kind.DS))))

-- The NSEC set of a name: one record, of the next name and of these types. The next name is
-- compared without regard to case and to whether it is fully qualified.
pub record IsNsecSet (zone : Zone) (owner : DomainName) (set : RRset) : Type 0 where
  pub only : Record
  pub one : set.records ≡ only ∷ []
  pub octets : List ℕ
  pub held : nsec_octets only.rdata ≡ Some octets
  pub next : DomainName
  pub types : List ℕ
  pub are : IsNsecData octets next types
  pub following : DomainName
  pub labels : pointwise label_eq next.labels following.labels ≡ true
  pub follows : Follows kind.NSEC zone owner following
  pub lists : (t : RecordType) → record_type_number t < 2 ^ 16
      → list_any (λ code. code == record_type_number t) types ≡ is_listed zone owner t

-- A zone is secured by NSEC: exactly its authoritative names own an NSEC set, each the one of the
-- next name.
pub record IsSecured (zone : Zone) : Type 0 where
  pub each : (name : DomainName) → IsAuthoritativeName kind.NSEC zone name
      → IsSomeAnd (rrset_at zone.sets name kind.NSEC) (IsNsecSet zone name)
  pub only : (name : DomainName) → IsSome (rrset_at zone.sets name kind.NSEC)
      → IsAuthoritativeName kind.NSEC zone name
