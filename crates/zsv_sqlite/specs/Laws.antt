-- What updates keep of a zone: RFC 2181, section 10.1; RFC 2136, sections 3.4.2.2 to 3.4.2.4.
use Rattle.std.specs.Prelude.{◌≡◌, true, List, length, IsSomeAnd, IsSome, is_some}
use Rattle.std.specs.List.{AllByRecursion}
use Rattle.zst_map.specs.dnw_codes.declared.record_type.RecordType.TheVariants as kind
use Rattle.zst_map.specs.dnw_name.DomainName.{DomainName}
use Rattle.zst_map.specs.zst_handler.Lookups.{sets_of_name}
use Rattle.zst_map.specs.zst_handler.Updates.{may_be_beside_alias, set_of_type}
use Rattle.zst_map.specs.zst_handler.Zones.{Zone}
use Rattle.zst_map.specs.zst_record.RecordSets.{RRset}

-- An owner of CNAME has no other set but NSEC and NSEC3.
abbrev pub IsAliasAlone : List RRset → Type 0
IsAliasAlone sets =
    is_some (set_of_type kind.CNAME sets) ≡ true
    → AllByRecursion (λ set. may_be_beside_alias set.record_type ≡ true) sets

abbrev pub AliasesAlone : Zone → Type 0
AliasesAlone zone = (name : DomainName) → IsAliasAlone (sets_of_name zone.sets name)

-- The apex has an SOA set of one record.
abbrev pub HasOneSoa : Zone → Type 0
HasOneSoa zone =
    IsSomeAnd (set_of_type kind.SOA (sets_of_name zone.sets zone.origin))
    (λ set. length set.records ≡ 1)

-- The apex has name servers.
abbrev pub HasNs : Zone → Type 0
HasNs zone = IsSome (set_of_type kind.NS (sets_of_name zone.sets zone.origin))
