-- What may change in a secured zone: records of other types, and all signatures.
use Rattle.std.specs.Prelude.{◌≡◌, Bool, true, ◌||◌, List, Option, option_map}
use Rattle.zst_handler.specs.Zones.{Zone, rrset_at}
use Rattle.zst_handler.specs.dnw_codes.declared.record_type.RecordType.{RecordType}
use Rattle.zst_handler.specs.dnw_codes.declared.record_type.RecordType.TheVariants as kind
use Rattle.zst_handler.specs.dnw_codes.RecordType.{same_record_type}
use Rattle.zst_handler.specs.dnw_name.DomainName.{DomainName}
use Rattle.zst_handler.specs.zst_record.declared.records.Record.{Record}
use Rattle.zst_denial.specs.Circles.{is_owned}

-- The types of the sets by which a zone is secured.
abbrev pub is_circle_type : RecordType → Bool
is_circle_type t =
    same_record_type t kind.NSEC || (same_record_type t kind.NSEC3
    || same_record_type t kind.NSEC3PARAM)

-- The records of a type at a name, if there is a set.
abbrev pub records_at : Zone → DomainName → RecordType → Option (List Record)
records_at zone name t = option_map (λ set. set.records) (rrset_at zone.sets name t)

-- Two zones have the same origin, the same types at each name, and the same records of the types by
-- which they are secured.
pub record HaveSameCircle (old new : Zone) : Type 0 where
  pub origin : new.origin ≡ old.origin
  pub owned : (name : DomainName) (t : RecordType) → is_owned new name t ≡ is_owned old name t
  pub records : (name : DomainName) (t : RecordType) → is_circle_type t ≡ true
      → records_at new name t ≡ records_at old name t
