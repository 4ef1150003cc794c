-- What holds of a zone that a loader made.
use Rattle.std.specs.Prelude.{◌≡◌, ◌≤◌, Bool, false, true, ◌||◌, List, [], ◌∷◌, length, IsSome}
use Rattle.std.specs.List.{AllByRecursion}
use Rattle.drd_record_data.specs.Numbers.{NumbersFit}
use Rattle.zst_zone.specs.dnw_codes.DNSClass.{same_class}
use Rattle.zst_zone.specs.dnw_codes.declared.dns_class.DNSClass.TheVariants.{IN}
use Rattle.zst_zone.specs.dnw_codes.declared.record_type.RecordType.{RecordType}
use Rattle.zst_zone.specs.dnw_codes.declared.record_type.RecordType.TheVariants as kind
use Rattle.zst_zone.specs.dnw_codes.RecordType.{same_record_type}
use Rattle.zst_zone.specs.dnw_name.DomainName.{DomainName, is_at_or_below}
use Rattle.zst_zone.specs.drd_rdata.Order.{rdata_eq}
use Rattle.zst_zone.specs.drd_rdata.Types.{type_of}
use Rattle.zst_zone.specs.zst_record.declared.records.Record.{Record}
use Rattle.zst_zone.specs.zst_record.Records.{IsOwnType, IsServable}
use Rattle.zst_zone.specs.zst_record.RecordSets.{RRset, is_single}
use Rattle.zst_zone.specs.zst_handler.Updates.{are_apart}
use Rattle.zst_zone.specs.zst_handler.Zones.{AreInOrder, AreStored, Zone, rrset_at}

-- The types that signing adds to a zone: signatures and proofs of absence (RFC 4034; RFC 5155).
abbrev pub added_by_signing : RecordType → Bool
added_by_signing record_type =
    same_record_type record_type kind.RRSIG
    || (same_record_type record_type kind.NSEC
    || (same_record_type record_type kind.NSEC3 || same_record_type record_type kind.NSEC3PARAM))

-- No two records of a set have equal data (RFC 2181, section 5).
abbrev pub AreDifferent : List Record → Type 0
AreDifferent [] = Unit {0}
AreDifferent (r ∷ rs) =
    AllByRecursion (λ later. rdata_eq r.rdata later.rdata ≡ false) rs × AreDifferent rs

-- A record is of class IN, of its set's type and inside the zone, may be served, its numbers fit
-- their fields, and the types of a CSYNC rise.
pub record IsLoadedRecord (origin : DomainName) (set : RRset) (r : Record) : Type 0 where
  pub of_class : same_class r.dns_class IN ≡ true
  pub of_type : type_of r.rdata ≡ set.record_type
  pub inside : is_at_or_below r.name origin ≡ true
  pub servable : IsServable r
  pub fits : NumbersFit r.rdata

-- A set has no signatures, each record once, and one record where there may be one alone.
pub record IsLoadedSet (origin : DomainName) (set : RRset) : Type 0 where
  pub records : AllByRecursion (IsLoadedRecord origin set) set.records
  pub unsigned : set.signatures ≡ []
  pub different : AreDifferent set.records
  pub single : is_single set.record_type ≡ true → length set.records ≤ 1
  pub unsecured : added_by_signing set.record_type ≡ false
  pub of_class : same_class set.dns_class IN ≡ true
  pub own_type : IsOwnType set.record_type

-- An owner of an alias owns no other set (RFC 1034, section 3.6.2).
abbrev pub AliasesAlone : List RRset → Type 0
AliasesAlone sets =
    (name : DomainName) (first second : RecordType) → IsSome (rrset_at sets name first)
    → IsSome (rrset_at sets name second) → are_apart first second ≡ false

pub record IsLoaded (zone : Zone) : Type 0 where
  pub sets : AllByRecursion (IsLoadedSet zone.origin) zone.sets
  pub aliases : AliasesAlone zone.sets
  pub ordered : AreInOrder zone.sets
  pub stored : AreStored zone.sets
