-- The sets that one owner is to have after an update, type by type (RFC 2136, section 3.7).
use Rattle.std.specs.Prelude.{◌≡◌, Bool, false, ◌&&◌, List, [], ◌∷◌, Option, None, find, if◌then◌else◌}
use Rattle.std.specs.List.{AllByRecursion, list_any}
use Rattle.zst_map.specs.dnw_codes.declared.dns_class.DNSClass.{DNSClass}
use Rattle.zst_map.specs.dnw_codes.declared.record_type.RecordType.{RecordType}
use Rattle.zst_map.specs.dnw_codes.RecordType.{same_record_type}
use Rattle.zst_map.specs.zst_handler.Updates.{are_apart, set_of_type}
use Rattle.zst_map.specs.zst_record.RecordSets.{RRset}
use Rattle.zst_map.specs.zst_record.declared.records.Record.{Record}
use Rattle.zst_map.specs.ZoneMaps.{TypesRise}
use Rattle.zst_request.specs.Applied.{changes_by, left_by}
use Rattle.zst_draft.specs.SetDrafts.{IsSetDraft, deletes, is_filled, set_in}
use Rattle.zst_draft.specs.declared.set.SetDraft.{SetDraft}

-- The stored sets of an owner: for each type one, or none.
abbrev pub Stored : Type 0
Stored = RecordType → Option RRset

abbrev pub is_draft_of : RecordType → SetDraft → Bool
is_draft_of record_type draft = same_record_type draft.record_type record_type

-- The set of a type, by the draft of that type.
abbrev pub drafted_in : Stored → List SetDraft → RecordType → Option RRset
drafted_in stored [] record_type = None
drafted_in stored (draft ∷ drafts) record_type =
    if is_draft_of record_type draft then set_in (stored draft.record_type) draft
    else drafted_in stored drafts record_type

-- No two drafts are of the same type.
abbrev pub TypesDiffer : List SetDraft → Type 0
TypesDiffer [] = Unit {0}
TypesDiffer (draft ∷ drafts) =
    AllByRecursion (λ other. is_draft_of draft.record_type other ≡ false) drafts
    × TypesDiffer drafts

-- Each stored set has a draft.
abbrev pub AllDrafted : Stored → List SetDraft → Type 0
AllDrafted stored drafts =
    (record_type : RecordType) → find (is_draft_of record_type) drafts ≡ None
    → stored record_type ≡ None

-- Drafts over the stored sets of an owner.
pub record IsOwnerDraft (stored : Stored) (drafts : List SetDraft) : Type 0 where
  pub each : AllByRecursion (λ draft. IsSetDraft (stored draft.record_type) draft) drafts
  pub differ : TypesDiffer drafts
  pub all : AllDrafted stored drafts

-- Drafts that leave each of these sets as it is.
abbrev pub AreAsStored : List RRset → List SetDraft → Type 0
AreAsStored [] [] = Unit {0}
AreAsStored (set ∷ sets) (draft ∷ drafts) =
    (draft.record_type ≡ set.record_type) × (draft.records ≡ None) × AreAsStored sets drafts
AreAsStored sets drafts = ⊥

-- The drafted sets, by rising type.
pub record DraftsSets (stored : Stored) (drafts : List SetDraft) (sets : List RRset) : Type 0 where
  pub rise : TypesRise sets
  pub alike : (record_type : RecordType)
      → set_of_type record_type sets ≡ drafted_in stored drafts record_type

-- A record of a type may not be added beside the drafted sets.
abbrev pub keeps_out : List SetDraft → RecordType → Bool
keeps_out drafts record_type =
    list_any (λ draft. is_filled draft && are_apart draft.record_type record_type) drafts

-- The set is deleted if a record of class ANY deletes sets of its type; otherwise it stays.
pub record DeletesSet (at_apex : Bool) (r : Record) (old new : SetDraft) : Type 0 where
  pub kind : new.record_type ≡ old.record_type
  pub is : (stored : Option RRset) → IsSetDraft stored old → IsSetDraft stored new
  pub set : (stored : Option RRset) → IsSetDraft stored old
      → set_in stored new
      ≡ (if deletes at_apex r old.record_type then None else set_in stored old)

abbrev pub DeletesAll : Bool → Record → List SetDraft → List SetDraft → Type 0
DeletesAll at_apex r [] [] = Unit {0}
DeletesAll at_apex r (old ∷ olds) (new ∷ news) =
    DeletesSet at_apex r old new × DeletesAll at_apex r olds news
DeletesAll at_apex r olds news = ⊥

-- A record of an update was applied to the drafts of its owner; `changed` says whether it changes
-- the owner's sets.
pub record Applies (stored : Stored) (old : List SetDraft) (at_apex : Bool) (r : Record)
    (class : DNSClass) (changed : Bool) (new : List SetDraft) : Type 0 where
  pub is : IsOwnerDraft stored new
  pub changes : (sets : List RRset) → DraftsSets stored old sets
      → changed ≡ changes_by at_apex sets r class
  pub leaves : (sets : List RRset) → DraftsSets stored old sets
      → DraftsSets stored new (left_by at_apex sets r class)
