-- How the draft of a zone is put into it, all or nothing (RFC 2136, section 3.7): first the sets of
-- types that their owner hasn't, each of which is removed again if memory runs out; then the
-- others, which takes no memory.
use Rattle.std.specs.Prelude.{◌≡◌, ◌⊎◌, ◌&&◌, true, false, List, [], ◌∷◌, Option, Some, None, IsSome, length, if◌then◌else◌}
use Rattle.std.specs.List.{AllByRecursion}
use Rattle.zst_map.specs.dnw_codes.declared.record_type.RecordType.{RecordType}
use Rattle.zst_map.specs.dnw_codes.RecordType.{same_record_type}
use Rattle.zst_map.specs.dnw_name.DomainName.{DomainName, lowercase_name, name_eq}
use Rattle.zst_map.specs.zst_handler.Updates.{ZoneReplaces}
use Rattle.zst_map.specs.zst_handler.Zones.{AreInOrder, IsStored, Zone, rrset_at}
use Rattle.zst_map.specs.zst_record.RecordSets.{RRset}
use Rattle.zst_draft.specs.OwnerDrafts.{AllDrafted, TypesDiffer, drafted_in}
use Rattle.zst_draft.specs.SetDrafts.{IsRecordsDraft, records_of, set_in}
use Rattle.zst_draft.specs.declared.owner.OwnerDraft.{OwnerDraft}
use Rattle.zst_draft.specs.declared.records.RecordsDraft.{RecordsDraft}
use Rattle.zst_draft.specs.declared.set.SetDraft.{SetDraft}

-- ---- one set
abbrev pub IsOverStored : Option RRset → Option RecordsDraft → Type 0
IsOverStored stored None = Unit {0}
IsOverStored stored (Some draft) = IsRecordsDraft (length (records_of stored)) draft

abbrev pub IsSetOf : DomainName → Option RRset → Type 0
IsSetOf key None = Unit {0}
IsSetOf key (Some set) = IsStored set × (name_eq key set.name ≡ true)

-- The drafted set, if there is one, is of the owner with this key.
pub record CanSettle (sets : List RRset) (key : DomainName) (draft : SetDraft) : Type 0 where
  pub is : IsOverStored (rrset_at sets key draft.record_type) draft.records
  pub set : IsSetOf key (set_in (rrset_at sets key draft.record_type) draft)

-- New records are drafted only where a set is stored.
abbrev pub IsReady : List RRset → DomainName → SetDraft → Type 0
IsReady sets key draft =
    (records : RecordsDraft) → draft.records ≡ Some records
    → (records.len ≡ 0) ⊎ IsSome (rrset_at sets key draft.record_type)

-- A part of a draft was put into the zone: the set by the remaining draft over the new zone is the
-- set by the draft over the old one.
pub record Settles (old : Zone) (key : DomainName) (draft : SetDraft) (new : Zone)
    (remaining : SetDraft) : Type 0 where
  pub others : (name : DomainName) (record_type : RecordType)
      → (name_eq name key && same_record_type draft.record_type record_type) ≡ false
      → rrset_at new.sets name record_type ≡ rrset_at old.sets name record_type
  pub kind : remaining.record_type ≡ draft.record_type
  pub set : set_in (rrset_at new.sets key draft.record_type) remaining
      ≡ set_in (rrset_at old.sets key draft.record_type) draft
  pub can : CanSettle new.sets key remaining
  pub rest : new ≡ record old { sets = new.sets }

-- ---- the sets of one owner
pub record CanSettleOwner (sets : List RRset) (key : DomainName) (drafts : List SetDraft) : Type
    0 where
  pub each : AllByRecursion (CanSettle sets key) drafts
  pub differ : TypesDiffer drafts
  pub all : AllDrafted (rrset_at sets key) drafts
  pub lower : lowercase_name key ≡ key

pub record SettlesOwner (old : Zone) (key : DomainName) (drafts : List SetDraft) (new : Zone)
    (remaining : List SetDraft) : Type 0 where
  pub others : (name : DomainName) (record_type : RecordType) → name_eq name key ≡ false
      → rrset_at new.sets name record_type ≡ rrset_at old.sets name record_type
  pub sets : (record_type : RecordType)
      → drafted_in (rrset_at new.sets key) remaining record_type
      ≡ drafted_in (rrset_at old.sets key) drafts record_type
  pub can : CanSettleOwner new.sets key remaining
  pub rest : new ≡ record old { sets = new.sets }

-- ---- the sets of all owners
abbrev pub Drafted : Type 0
Drafted = List (DomainName × OwnerDraft)

-- The set that a name is to have of a type: drafted, or stored.
abbrev pub value_at : List RRset → Drafted → DomainName → RecordType → Option RRset
value_at sets [] name record_type = rrset_at sets name record_type
value_at sets (owner ∷ owners) name record_type =
    if name_eq name owner.0 then drafted_in (rrset_at sets owner.0) owner.1.sets.items record_type
    else value_at sets owners name record_type

abbrev pub KeysDiffer : Drafted → Type 0
KeysDiffer [] = Unit {0}
KeysDiffer (owner ∷ owners) =
    AllByRecursion (λ other. name_eq owner.0 other.0 ≡ false) owners × KeysDiffer owners

pub record CanSettleAll (sets : List RRset) (owners : Drafted) : Type 0 where
  pub each : AllByRecursion (λ owner. CanSettleOwner sets owner.0 owner.1.sets.items) owners
  pub differ : KeysDiffer owners

pub record SettlesAll (old : Zone) (owners : Drafted) (new : Zone) (remaining : Drafted) : Type
    0 where
  pub values : (name : DomainName) (record_type : RecordType)
      → value_at new.sets remaining name record_type ≡ value_at old.sets owners name record_type
  pub can : CanSettleAll new.sets remaining
  pub rest : new ≡ record old { sets = new.sets }

abbrev pub AreReady : List RRset → Drafted → Type 0
AreReady sets owners =
    AllByRecursion (λ owner. AllByRecursion (IsReady sets owner.0) owner.1.sets.items) owners

-- ---- the way back
-- Removing these sets in turn gives the old zone.
abbrev pub LeadsBack : List (DomainName × RecordType) → Zone → Zone → Type 0
LeadsBack [] now old = now ≡ old
LeadsBack (put ∷ puts) now old =
    (next : Zone) → ZoneReplaces now put.0 put.1 None next → LeadsBack puts next old

pub record Returns (old : Zone) (puts : List (DomainName × RecordType)) (now : Zone) : Type
    0 where
  pub ordered : AreInOrder now.sets
  pub back : LeadsBack puts now old
