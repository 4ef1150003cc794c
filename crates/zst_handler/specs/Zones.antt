-- A zone: a finite map from owner and type to the set of records stored there (RFC 1035, section
-- 4.3.2).
use Rattle.std.specs.Prelude.{◌≡◌, Bool, false, List, [], ◌∷◌, Option, Some, None, ◌&&◌, find, if◌then◌else◌}
use Rattle.std.specs.List.{AllByRecursion, list_any}
use Rattle.std.specs.Ordering.{nat_cmp, on, then_cmp}
use Rattle.std.specs.declared.cmp.Ordering.{Ordering}
use Rattle.std.specs.declared.cmp.Ordering.TheVariants.{Less}
use Rattle.zst_record.specs.dnw_codes.declared.record_type.RecordType.{RecordType}
use Rattle.zst_record.specs.declared.records.Record.{Record}
use Rattle.zst_edns.specs.zst_codes.declared.settings.ZoneType.{ZoneType}
use Rattle.zst_edns.specs.zst_codes.declared.settings.AxfrPolicy.{AxfrPolicy}
use Rattle.zst_edns.specs.zst_codes.declared.nx_proof.NxProofKind.{NxProofKind}
use Rattle.zst_handler.specs.declared.settings.ZoneSettings.{ZoneSettings}
use Rattle.zst_record.specs.dnw_name.DomainName.{DomainName, name_cmp, name_eq, is_at_or_below}
use Rattle.zst_record.specs.dnw_codes.RecordType.{record_type_number, same_record_type}
use Rattle.zst_record.specs.drd_rdata.Types.{type_of}
use Rattle.zst_record.specs.Records.{IsServable}
use Rattle.zst_record.specs.RecordSets.{IsRRset, RRset, none_left, set_with}

-- The set of a type at a name.
abbrev pub rrset_at : List RRset → DomainName → RecordType → Option RRset
rrset_at sets name record_type =
    find (λ set. name_eq name set.name && same_record_type set.record_type record_type) sets

-- A name exists where an owner equals it or lies below it (RFC 4592, section 2.2.2).
abbrev pub exists_in : List RRset → DomainName → Bool
exists_in sets name = list_any (λ set. is_at_or_below set.name name) sets

-- The order of sets: by owner in canonical order (RFC 4034, section 6.1), then by the type's
-- number.
abbrev pub set_cmp : RRset → RRset → Ordering
set_cmp =
    then_cmp (on (λ set. set.name) name_cmp)
    (on (λ set. record_type_number set.record_type) nat_cmp)

-- Each set stands before those behind it, so that no owner has two sets of a type.
abbrev pub AreInOrder : List RRset → Type 0
AreInOrder [] = Unit {0}
AreInOrder (set ∷ sets) = AllByRecursion (λ later. set_cmp set later ≡ Less) sets × AreInOrder sets

-- The sets after are those before with this record added, and every other set as it was.
abbrev pub Adds : List RRset → Record → List RRset → Type 0
Adds old r new =
    (name : DomainName) (record_type : RecordType) → rrset_at new name record_type
    ≡ (if name_eq name r.name
    && same_record_type (type_of r.rdata) record_type then Some
    (set_with (rrset_at old name record_type) r) else rrset_at old name record_type)

-- What guards a zone: a transfer policy that is asked before the zone's own (RFC 5936, section 5),
-- and whether messages may change the zone (RFC 2136, section 3.3).
pub record Guard : Type 0 where
  pub axfr_policy : AxfrPolicy
  pub allow_update : Bool

-- What a stored zone means: where it begins, how it may be used, and its sets, which every zone has
-- in order. Without a guard no message changes it.
pub record Zone : Type 0 where
  pub origin : DomainName
  pub zone_type : ZoneType
  pub axfr_policy : AxfrPolicy
  pub nx_proof_kind : Option NxProofKind
  pub guard : Option Guard
  pub sets : List RRset

-- A zone without records.
abbrev pub empty_zone : DomainName → ZoneSettings → Zone
empty_zone name settings =
    record {
      origin = name;
      zone_type = settings.zone_type;
      axfr_policy = settings.axfr_policy;
      nx_proof_kind = settings.nx_proof_kind;
      guard = None;
      sets = [];
    }

-- The zone after is the one before with this record added. What it stores and their order leave one
-- list of sets.
pub record AddsTo (old : Zone) (r : Record) (new : Zone) : Type 0 where
  pub adds : Adds old.sets r new.sets
  pub ordered : AreInOrder new.sets
  pub rest : new ≡ record old { sets = new.sets }

-- A set as a zone stores it: it has records, and what it has is of its owner, class and type.
pub record IsStored (set : RRset) : Type 0 where
  pub filled : none_left set.records ≡ false
  pub is : IsRRset set

abbrev pub AreStored : List RRset → Type 0
AreStored sets = AllByRecursion IsStored sets

-- Each record and each signature of a set can be served, and so read by the receiver.
pub record SetReadsBack (set : RRset) : Type 0 where
  pub records : AllByRecursion IsServable set.records
  pub signatures : AllByRecursion IsServable set.signatures

abbrev pub ZoneReadsBack : Zone → Type 0
ZoneReadsBack zone = AllByRecursion SetReadsBack zone.sets
