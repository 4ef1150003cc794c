-- The set that an owner is to have of one type after an update (RFC 2136, section 3.7).
use Rattle.std.specs.Prelude.{◌≡◌, ℕ, Bool, true, false, not, ◌&&◌, ◌||◌, ◌==◌, List, [], ◌∷◌, Option, Some, None, length, if◌then◌else◌}
use Rattle.zst_map.specs.dnw_codes.declared.dns_class.DNSClass.TheVariants.{IN}
use Rattle.zst_map.specs.dnw_codes.declared.record_type.RecordType.{RecordType}
use Rattle.zst_map.specs.dnw_codes.declared.record_type.RecordType.TheVariants as kind
use Rattle.zst_map.specs.dnw_codes.RecordType.{same_record_type}
use Rattle.zst_map.specs.dnw_name.DomainName.{domain_name}
use Rattle.zst_map.specs.drd_rdata.Types.{type_of}
use Rattle.zst_map.specs.drd_rdata.declared.rdata.RData.TheVariants.{Update0}
use Rattle.zst_map.specs.zst_handler.Zones.{IsStored}
use Rattle.zst_map.specs.zst_record.Drafts.{IsDraft, drafted}
use Rattle.zst_map.specs.zst_record.Records.{record_with}
use Rattle.zst_map.specs.zst_record.RecordSets.{RRset, held_set, is_single, loses, none_left, put_record, removed}
use Rattle.zst_map.specs.zst_record.declared.records.Record.{Record}
use Rattle.zst_request.specs.Prerequisites.{asks_any}
use Rattle.zst_draft.specs.declared.records.RecordsDraft.{RecordsDraft}
use Rattle.zst_draft.specs.declared.set.SetDraft.{SetDraft}

-- ---- the records
-- The placeholder for a record that stays in the stored set until the draft is committed.
abbrev pub stand_in : Record
stand_in = record_with (domain_name true []) IN 0 (Update0 kind.ANY)

-- A draft over `count` stored records.
pub record IsRecordsDraft (count : ℕ) (draft : RecordsDraft) : Type 0 where
  pub list : IsDraft count draft.list.places.items draft.list.items.items
  pub len : draft.len ≡ length draft.list.items.items

-- The records of a set: the stored ones, or those of a draft over them.
abbrev pub records_in : List Record → Option RecordsDraft → List Record
records_in stored None = stored
records_in stored (Some draft) =
    drafted stored draft.list.places.items draft.list.items.items

abbrev pub IsDraftOf : List Record → Option RecordsDraft → Type 0
IsDraftOf stored None = Unit {0}
IsDraftOf stored (Some draft) = IsRecordsDraft (length stored) draft

-- The records with a new one, which replaces all others if the type has one record at most.
abbrev pub joined : RecordType → List Record → Record → List Record
joined record_type rs r = if is_single record_type then r ∷ [] else put_record rs r

-- ---- the set
abbrev pub records_of : Option RRset → List Record
records_of None = []
records_of (Some set) = set.records

-- A changed set has no signatures; without records there is no set.
abbrev pub filled : RecordType → List Record → Option RRset
filled record_type [] = None
filled record_type (r ∷ rs) = Some (held_set record_type false (r ∷ rs) [])

-- The set by a draft over the stored one, which stays as it is where no records are drafted.
abbrev pub set_by : Option RRset → RecordType → Option RecordsDraft → Option RRset
set_by stored record_type None = stored
set_by stored record_type (Some draft) =
    filled record_type (records_in (records_of stored) (Some draft))

abbrev pub set_in : Option RRset → SetDraft → Option RRset
set_in stored draft = set_by stored draft.record_type draft.records

-- Only a stored set, of the draft's type, can stay as it is.
abbrev pub IsAsStored : Option RRset → RecordType → Type 0
IsAsStored None record_type = ⊥
IsAsStored (Some set) record_type = IsStored set × (record_type ≡ set.record_type)

abbrev pub IsSetBy : Option RRset → RecordType → Option RecordsDraft → Type 0
IsSetBy stored record_type None = IsAsStored stored record_type
IsSetBy stored record_type (Some draft) = IsRecordsDraft (length (records_of stored)) draft

-- A draft over a stored set, or over none.
abbrev pub IsSetDraft : Option RRset → SetDraft → Type 0
IsSetDraft stored draft = IsSetBy stored draft.record_type draft.records

-- Whether the set has records.
abbrev pub is_filled_by : Option RecordsDraft → Bool
is_filled_by None = true
is_filled_by (Some draft) = not (draft.len == 0)

abbrev pub is_filled : SetDraft → Bool
is_filled draft = is_filled_by draft.records

-- Whether the draft has records of its own.
abbrev pub has_records : Option RecordsDraft → Bool
has_records None = false
has_records (Some draft) = not (draft.len == 0)

-- ---- a record of an update and the set of its type (RFC 2136, section 3.4.2)
-- One of class NONE is deleted, if the set may lose it.
abbrev pub loses_in : Option RRset → Record → Bool
loses_in None r = false
loses_in (Some set) r = loses set r

abbrev pub if_some_left : RRset → Option RRset
if_some_left set = if none_left set.records then None else Some set

abbrev pub lost_in : Option RRset → Record → Option RRset
lost_in None r = None
lost_in (Some set) r = if loses set r then if_some_left (removed set r) else Some set

-- Whether one of class ANY deletes sets of this type.
abbrev pub deletes : Bool → Record → RecordType → Bool
deletes at_apex r record_type =
    (asks_any r || same_record_type record_type (type_of r.rdata))
    && not (at_apex
    && (same_record_type record_type kind.SOA || same_record_type record_type kind.NS))
