-- The sets that a zone is to have after an update (RFC 2136, section 3.7).
use Rattle.std.specs.Prelude.{◌≡◌, Bool, true, List, Option, Some, None}
use Rattle.std.specs.List.{AllByRecursion}
use Rattle.std.specs.HashMap.{HashMap, PutsEntry, Updates, get, keys}
use Rattle.zst_map.specs.dnw_name.DomainName.{DomainName, lowercase_name, name_eq}
use Rattle.zst_map.specs.zst_handler.Lookups.{sets_of_name}
use Rattle.zst_map.specs.zst_handler.Zones.{IsStored, Zone, rrset_at}
use Rattle.zst_map.specs.zst_record.RecordSets.{RRset}
use Rattle.zst_map.specs.zst_record.declared.records.Record.{Record}
use Rattle.zst_request.specs.Applied.{Owned}
use Rattle.zst_draft.specs.OwnerDrafts.{Applies, DraftsSets, IsOwnerDraft}
use Rattle.zst_draft.specs.declared.owner.OwnerDraft.{OwnerDraft}
use Rattle.zst_draft.specs.declared.zone.ZoneDraft.{ZoneDraft}

-- The sets that an owner of this name is to have: the drafted ones, or the stored ones.
abbrev pub DraftsAt : List RRset → DomainName → Option OwnerDraft → List RRset → Type 0
DraftsAt stored name None sets = sets ≡ sets_of_name stored name
DraftsAt stored name (Some owner) sets = DraftsSets (rrset_at stored name) owner.sets.items sets

abbrev pub IsDraftAt : List RRset → DomainName → Option OwnerDraft → Type 0
IsDraftAt stored name None = Unit {0}
IsDraftAt stored name (Some owner) = IsOwnerDraft (rrset_at stored name) owner.sets.items

-- Sets of one owner, each with records.
abbrev pub AreOwned : DomainName → List RRset → Type 0
AreOwned name sets = AllByRecursion (λ set. IsStored set × (name_eq name set.name ≡ true)) sets

-- By the draft over the zone these are the sets that each name is to have. Its keys are in lower
-- case.
pub record DraftsZone (zone : Zone) (draft : ZoneDraft) (at : Owned) : Type 0 where
  pub each : (name : DomainName) → IsDraftAt zone.sets name (get name_eq draft.owners name)
  pub alike : (name : DomainName)
      → DraftsAt zone.sets name (get name_eq draft.owners name) (at name)
  pub owned : (name : DomainName) → AreOwned name (at name)
  pub lower : AllByRecursion (λ key. lowercase_name key ≡ key) (keys draft.owners)

-- A draft over this zone.
abbrev pub IsDraftOfZone : Zone → ZoneDraft → Type 0
IsDraftOfZone zone draft = (at : Owned) × DraftsZone zone draft at

-- A record was applied to new drafts of an owner that had none.
pub record Begins {S : Type 0} (sets : List RRset) (old : HashMap DomainName OwnerDraft S)
    (key : DomainName) (at_apex : Bool) (r : Record) (changed : Bool)
    (new : HashMap DomainName OwnerDraft S) : Type 0 where
  pub first : OwnerDraft
  pub last : OwnerDraft
  pub is : IsOwnerDraft (rrset_at sets key) first.sets.items
  pub alike : DraftsSets (rrset_at sets key) first.sets.items (sets_of_name sets key)
  pub applies : Applies (rrset_at sets key) first.sets.items at_apex r r.dns_class changed
      last.sets.items
  pub put : Updates name_eq old new key (Some last)
  pub entries : PutsEntry name_eq old new key last (get name_eq old key)
