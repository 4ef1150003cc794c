-- What the records of an update leave of a zone: RFC 2136, section 3.4.2.
use Rattle.std.specs.Prelude.{◌≡◌, Bool, false, not, ◌&&◌, ◌||◌, List, [], ◌∷◌, map, filter, if◌then◌else◌}
use Rattle.std.specs.List.{flat_map, list_any}
use Rattle.zst_denial.specs.dnw_codes.declared.dns_class.DNSClass.{DNSClass}
use Rattle.zst_denial.specs.dnw_codes.declared.dns_class.DNSClass.TheVariants as classes
use Rattle.zst_denial.specs.dnw_codes.declared.record_type.RecordType.{RecordType}
use Rattle.zst_denial.specs.dnw_codes.declared.record_type.RecordType.TheVariants as kind
use Rattle.zst_denial.specs.dnw_codes.RecordType.{same_record_type}
use Rattle.zst_denial.specs.dnw_name.DomainName.{DomainName, name_eq}
use Rattle.zst_denial.specs.drd_rdata.Types.{type_of}
use Rattle.zst_denial.specs.zst_record.RecordSets.{RRset, loses, none_left, raised_set, removed}
use Rattle.zst_denial.specs.zst_record.declared.records.Record.{Record}
use Rattle.zst_denial.specs.zst_handler.Lookups.{sets_of_name}
use Rattle.zst_denial.specs.zst_handler.Updates.{is_kept_out, joins, set_of_type, upserted, with_set}
use Rattle.zst_denial.specs.zst_handler.Zones.{AreInOrder, AreStored, Zone}
use Rattle.zst_request.specs.Prerequisites.{asks_any}

-- ---- one record, and the sets of its owner, by rising type
-- At the apex SOA and NS stay (RFC 2136, section 3.4.2.3).
abbrev pub stays : Bool → RRset → Bool
stays at_apex set =
    at_apex
    && (same_record_type set.record_type kind.SOA || same_record_type set.record_type kind.NS)

-- A record of class ANY deletes a set: the one of its type, or any.
abbrev pub is_deleted : Bool → Record → RRset → Bool
is_deleted at_apex r set =
    (asks_any r || same_record_type set.record_type (type_of r.rdata)) && not (stays at_apex set)

-- One of class NONE is taken out of the set of its type, if that may lose it.
abbrev pub is_taken_from : Record → RRset → Bool
is_taken_from r set = same_record_type set.record_type (type_of r.rdata) && loses set r

-- A set without records is none.
abbrev pub if_filled : RRset → List RRset
if_filled set = if none_left set.records then [] else set ∷ []

abbrev pub taken_from : Record → RRset → List RRset
taken_from r set = if is_taken_from r set then if_filled (removed set r) else set ∷ []

-- One of class IN is added, unless the owner may not have it or has it (RFC 2136, section 3.4.2.2).
abbrev pub is_added : List RRset → Record → Bool
is_added sets r =
    not (is_kept_out sets (type_of r.rdata)) && joins (set_of_type (type_of r.rdata) sets) r

-- Whether a record changes the sets of its owner.
abbrev pub changes_by : Bool → List RRset → Record → DNSClass → Bool
changes_by at_apex sets r classes.IN = is_added sets r
changes_by at_apex sets r classes.ANY = list_any (is_deleted at_apex r) sets
changes_by at_apex sets r classes.NONE = list_any (is_taken_from r) sets
changes_by at_apex sets r other = false

-- The sets after it.
abbrev pub left_by : Bool → List RRset → Record → DNSClass → List RRset
left_by at_apex sets r classes.IN =
    if is_added sets r then with_set sets (upserted (set_of_type (type_of r.rdata) sets) r)
    else sets
left_by at_apex sets r classes.ANY = filter (λ set. not (is_deleted at_apex r set)) sets
left_by at_apex sets r classes.NONE = flat_map (taken_from r) sets
left_by at_apex sets r other = sets

-- ---- records, one after the other, and the sets of all names
-- What a zone stores: for each name its sets.
abbrev pub Owned : Type 0
Owned = DomainName → List RRset

abbrev pub changes : DomainName → Owned → Record → Bool
changes origin at r = changes_by (name_eq r.name origin) (at r.name) r r.dns_class

abbrev pub applied : DomainName → Owned → Record → Owned
applied origin at r name =
    if name_eq r.name name then left_by (name_eq r.name origin) (at name) r r.dns_class else at name

abbrev pub all_applied : DomainName → Owned → List Record → Owned
all_applied origin at [] = at
all_applied origin at (r ∷ rs) = all_applied origin (applied origin at r) rs

-- Some record changes what the ones before it left.
abbrev pub any_changes : DomainName → Owned → List Record → Bool
any_changes origin at [] = false
any_changes origin at (r ∷ rs) = changes origin at r || any_changes origin (applied origin at r) rs

-- ---- the serial number (RFC 2136, section 3.6)
abbrev pub if_soa_raised : RRset → RRset
if_soa_raised set = if same_record_type set.record_type kind.SOA then raised_set set else set

abbrev pub raised : DomainName → Owned → Owned
raised origin at name = if name_eq origin name then map if_soa_raised (at name) else at name

-- ---- the zone
-- What an update leaves of what a zone stores: its records applied one after the other, and where
-- one of them changes something the serial number raised, if it is to be.
abbrev pub updated : Zone → Bool → List Record → Owned
updated zone increment rs =
    if increment && any_changes zone.origin (sets_of_name zone.sets) rs
    then raised zone.origin (all_applied zone.origin (sets_of_name zone.sets) rs)
    else all_applied zone.origin (sets_of_name zone.sets) rs

-- The zone after is the one before, but for what it stores. What it stores and the order of its
-- sets leave one list of sets.
pub record LeavesZone (old : Zone) (at : Owned) (new : Zone) : Type 0 where
  pub sets : (name : DomainName) → sets_of_name new.sets name ≡ at name
  pub ordered : AreInOrder new.sets
  pub stored : AreStored new.sets
  pub rest : new ≡ record old { sets = new.sets }
