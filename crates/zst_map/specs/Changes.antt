-- What changes at an owner, and what its sets are then.
use Rattle.std.specs.Prelude.{Bool, true, false, List, [], ◌∷◌, Option, Some, None, if◌then◌else◌}
use Rattle.zst_handler.specs.dnw_codes.declared.record_type.RecordType.{RecordType}
use Rattle.zst_handler.specs.dnw_codes.RecordType.{same_record_type}
use Rattle.zst_handler.specs.Updates.{set_of_type, with_set}
use Rattle.zst_handler.specs.dnw_name.DomainName.{DomainName}
use Rattle.zst_handler.specs.drd_rdata.Types.{type_of}
use Rattle.zst_handler.specs.zst_record.RecordSets.{RRset, inserted, set_of, set_with, takes}
use Rattle.zst_map.specs.declared.change.Change.{Change}
use Rattle.zst_map.specs.declared.change.Change.TheVariants as changes

abbrev pub owner_of : Change → DomainName
owner_of (changes.Add r) = r.name
owner_of (changes.Upsert r) = r.name
owner_of (changes.Put set) = set.name

-- The type of the set that changes.
abbrev pub type_in : Change → RecordType
type_in (changes.Add r) = type_of r.rdata
type_in (changes.Upsert r) = type_of r.rdata
type_in (changes.Put set) = set.record_type

-- The set that was there, or none, as it is then.
abbrev pub made : Change → Option RRset → RRset
made (changes.Add r) set = set_with set r
made (changes.Upsert r) None = set_of r
made (changes.Upsert r) (Some set) = if takes set r then inserted set r else set
made (changes.Put new) set = new

-- Whether that is another one: an update may find its record there.
abbrev pub alters : Change → Option RRset → Bool
alters (changes.Upsert r) (Some set) = takes set r
alters change set = true

-- The sets of one owner after a change.
abbrev pub with_change : List RRset → Change → List RRset
with_change sets change = with_set sets (made change (set_of_type (type_in change) sets))

-- ---- what is taken out
-- The sets of one owner are one, of this type.
abbrev pub is_only : List RRset → RecordType → Bool
is_only (set ∷ []) record_type = same_record_type set.record_type record_type
is_only sets record_type = false
