-- What is changed in a set that stays where it is.
use Rattle.std.specs.Prelude.{◌≡◌, true, false, [], length}
use Rattle.std.specs.List.{AllByRecursion}
use Rattle.zst_handler.specs.dnw_codes.RecordType.{same_record_type}
use Rattle.zst_handler.specs.dnw_name.DomainName.{name_eq}
use Rattle.zst_handler.specs.zst_record.Drafts.{IsDraft, drafted}
use Rattle.zst_handler.specs.zst_record.RecordSets.{IsHeld, RRset, first_name, held_set, is_signature_of, raised_set}
use Rattle.zst_map.specs.declared.edit.Edit.{Edit}
use Rattle.zst_map.specs.declared.edit.Edit.TheVariants as edits

-- The set as it is then.
abbrev pub edited : Edit → RRset → RRset
edited (edits.Settle record_type draft) set =
    held_set record_type false (drafted set.records draft.places.items draft.items.items) []
edited edits.RaiseSerial set = raised_set set
edited (edits.Sign signatures) set = record set { signatures = signatures.items }

-- A draft over the set's records that leaves a set of its owner and type with some records;
-- signatures of the set.
abbrev pub CanEdit : Edit → RRset → Type 0
CanEdit (edits.Settle record_type draft) set =
    IsDraft (length set.records) draft.places.items draft.items.items
    × IsHeld record_type false (drafted set.records draft.places.items draft.items.items) []
    × (name_eq (first_name (drafted set.records draft.places.items draft.items.items)) set.name
    ≡ true)
    × (same_record_type record_type set.record_type ≡ true)
CanEdit edits.RaiseSerial set = Unit {0}
CanEdit (edits.Sign signatures) set =
    AllByRecursion (λ r. is_signature_of set r ≡ true) signatures.items
