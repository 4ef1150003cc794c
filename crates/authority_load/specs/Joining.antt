-- A record that joins a zone, and what keeps it out.
use Rattle.std.specs.Prelude.{◌≡◌, Bool, false, not, ◌&&◌, ◌||◌, List, Option, Some, None, is_some, if◌then◌else◌}
use Rattle.std.specs.List.{list_any}
use Rattle.zst_zone.specs.dnw_codes.declared.record_type.RecordType.{RecordType}
use Rattle.zst_zone.specs.dnw_codes.declared.record_type.RecordType.TheVariants as kind
use Rattle.zst_zone.specs.dnw_codes.RecordType.{same_record_type}
use Rattle.zst_zone.specs.dnw_name.DomainName.{DomainName, name_eq}
use Rattle.zst_zone.specs.drd_rdata.Order.{rdata_eq}
use Rattle.zst_zone.specs.drd_rdata.Types.{type_of}
use Rattle.zst_zone.specs.zst_record.declared.records.Record.{Record}
use Rattle.zst_zone.specs.zst_record.RecordSets.{RRset, set_of, set_with}
use Rattle.zst_zone.specs.zst_handler.Lookups.{sets_of_name}
use Rattle.zst_zone.specs.zst_handler.Updates.{is_kept_out}
use Rattle.zst_zone.specs.zst_handler.Zones.{AreInOrder, Zone, rrset_at}

-- The record has this owner and type.
abbrev pub is_of : DomainName → RecordType → Record → Bool
is_of name record_type r = name_eq name r.name && same_record_type (type_of r.rdata) record_type

-- The set with the record, in place of one with equal data. An ANAME replaces its set.
abbrev pub joined : Option RRset → Record → RRset
joined set r = if same_record_type (type_of r.rdata) kind.ANAME then set_of r else set_with set r

-- The new zone is the old one with the record.
pub record Joins (old : Zone) (r : Record) (new : Zone) : Type 0 where
  pub joins : (name : DomainName) (record_type : RecordType) → rrset_at new.sets name record_type
      ≡ (if is_of name record_type r then Some (joined (rrset_at old.sets name record_type) r)
      else rrset_at old.sets name record_type)
  pub ordered : AreInOrder new.sets
  pub rest : new ≡ record old { sets = new.sets }

-- One of the records has other data.
abbrev pub has_others : List Record → Record → Bool
has_others records r = list_any (λ s. not (rdata_eq s.rdata r.rdata)) records

abbrev pub is_other_alias : Option RRset → Record → Bool
is_other_alias None r = false
is_other_alias (Some set) r = has_others set.records r

-- An alias and another set, or a second alias, at one owner (RFC 1034, section 3.6.2; RFC 2181,
-- section 10.1).
abbrev pub is_beside_alias : List RRset → Record → Bool
is_beside_alias sets r =
    is_kept_out (sets_of_name sets r.name) (type_of r.rdata)
    || (same_record_type (type_of r.rdata) kind.CNAME
    && is_other_alias (rrset_at sets r.name kind.CNAME) r)

-- A second SOA of the owner (RFC 1035, section 5.2).
abbrev pub is_second_start : List RRset → Record → Bool
is_second_start sets r =
    same_record_type (type_of r.rdata) kind.SOA && is_some (rrset_at sets r.name kind.SOA)
