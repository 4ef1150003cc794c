-- What changes the sets of a zone: RFC 2136, section 3.4.2.
use Rattle.std.specs.Prelude.{◌≡◌, Bool, true, false, not, ◌&&◌, ◌||◌, List, [], ◌∷◌, Option, Some, None, find, nat_lt, if◌then◌else◌}
use Rattle.std.specs.List.{list_any}
use Rattle.zst_record.specs.dnw_codes.declared.dns_class.DNSClass.TheVariants.{IN}
use Rattle.zst_record.specs.dnw_codes.declared.record_type.RecordType.{RecordType}
use Rattle.zst_record.specs.dnw_codes.declared.record_type.RecordType.TheVariants as kind
use Rattle.zst_record.specs.dnw_codes.DNSClass.{same_class}
use Rattle.zst_record.specs.dnw_codes.RecordType.{record_type_number, same_record_type}
use Rattle.zst_record.specs.dnw_name.DomainName.{DomainName, name_eq}
use Rattle.zst_record.specs.drd_rdata.Types.{type_of}
use Rattle.zst_record.specs.declared.records.Record.{Record}
use Rattle.zst_record.specs.RecordSets.{RRset, inserted, set_of, takes}
use Rattle.zst_handler.specs.Lookups.{sets_of_name}
use Rattle.zst_handler.specs.Zones.{AreInOrder, Zone, rrset_at}

-- The sets after are those before, but for the set of one owner and type.
abbrev pub Replaces : List RRset → DomainName → RecordType → Option RRset → List RRset → Type 0
Replaces old owner of_type set new =
    (name : DomainName) (record_type : RecordType) → rrset_at new name record_type
    ≡ (if name_eq name owner && same_record_type of_type record_type then set
    else rrset_at old name record_type)

-- The zone after is the one before, but for the set of one owner and type.
pub record ZoneReplaces (old : Zone) (owner : DomainName) (of_type : RecordType)
    (set : Option RRset) (new : Zone) : Type 0 where
  pub replaces : Replaces old.sets owner of_type set new.sets
  pub ordered : AreInOrder new.sets
  pub rest : new ≡ record old { sets = new.sets }

-- ---- adding a record
-- Beside an alias stand denials of its name alone (RFC 2181, section 10.1; RFC 4035, section 2.5).
abbrev pub may_be_beside_alias : RecordType → Bool
may_be_beside_alias record_type =
    same_record_type record_type kind.CNAME
    || (same_record_type record_type kind.NSEC || same_record_type record_type kind.NSEC3)

abbrev pub are_apart : RecordType → RecordType → Bool
are_apart a b =
    (same_record_type a kind.CNAME && not (may_be_beside_alias b))
    || (same_record_type b kind.CNAME && not (may_be_beside_alias a))

-- A record of the type may not be added to an owner of these sets.
abbrev pub is_kept_out : List RRset → RecordType → Bool
is_kept_out sets record_type = list_any (λ set. are_apart set.record_type record_type) sets

-- Adding a record changes the set of its type, if there is one.
abbrev pub joins : Option RRset → Record → Bool
joins None r = true
joins (Some set) r = takes set r

-- Adding a record to a zone changes it: the record is of class IN, may stand at its owner, and
-- isn't there (RFC 2136, section 3.4.2.2).
abbrev pub upsert_changes : List RRset → Record → Bool
upsert_changes sets r =
    same_class r.dns_class IN
    && (not (is_kept_out (sets_of_name sets r.name) (type_of r.rdata))
    && joins (rrset_at sets r.name (type_of r.rdata)) r)

-- The set of the record's owner and type with it. It has no signatures.
abbrev pub upserted : Option RRset → Record → RRset
upserted None r = set_of r
upserted (Some set) r = inserted set r

pub record Upserts (old : Zone) (r : Record) (new : Zone) : Type 0 where
  pub changed : upsert_changes old.sets r ≡ true → ZoneReplaces old r.name (type_of r.rdata)
      (Some (upserted (rrset_at old.sets r.name (type_of r.rdata)) r)) new
  pub unchanged : upsert_changes old.sets r ≡ false → new ≡ old

-- ---- the sets of one owner
-- The sets of one owner with this one, by rising type, in place of the one of its type.
abbrev pub with_set : List RRset → RRset → List RRset
with_set [] new = new ∷ []
with_set (set ∷ sets) new =
    if nat_lt (record_type_number set.record_type) (record_type_number new.record_type) then set
    ∷ with_set sets new
    else if same_record_type set.record_type new.record_type then new ∷ sets
    else new ∷ set ∷ sets

-- The one of a type.
abbrev pub set_of_type : RecordType → List RRset → Option RRset
set_of_type record_type sets = find (λ set. same_record_type set.record_type record_type) sets

-- The sets of one owner without that of a type.
abbrev pub without_type : List RRset → RecordType → List RRset
without_type [] record_type = []
without_type (set ∷ sets) record_type =
    if same_record_type set.record_type record_type then sets
    else set ∷ without_type sets record_type
