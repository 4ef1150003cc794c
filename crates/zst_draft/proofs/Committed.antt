-- What the draft of a zone is of, owner by owner, and that it is what a commit leaves.
use Rattle.std.proofs.Common.{◌≡◌, refl, ap, sym, ◌∙◌, subst}
use Rattle.std.specs.Prelude.{Bool, true, false, List, [], ◌∷◌, Option, Some, None, cond}
use Rattle.std.specs.HashMap.{IsUnique, get}
use Rattle.std.specs.List.{AllByRecursion, IsDistinct}
use Rattle.std.specs.Map.{keys_of, lookup}
use Rattle.std.proofs.lemmas.Bool.{eq-eqb}
use Rattle.zst_map.specs.dnw_codes.declared.record_type.RecordType.{RecordType}
use Rattle.zst_map.specs.dnw_codes.RecordType.{record_type_number}
use Rattle.zst_map.specs.dnw_name.DomainName.{DomainName, name_eq}
use Rattle.zst_map.specs.zst_handler.Lookups.{sets_of_name}
use Rattle.zst_map.specs.zst_handler.Updates.{set_of_type}
use Rattle.zst_map.specs.zst_handler.Zones.{AreInOrder, AreStored, Zone, rrset_at}
use Rattle.zst_map.specs.zst_record.RecordLaws.{name_eq_equiv}
use Rattle.zst_map.specs.zst_record.RecordSets.{RRset}
use Rattle.zst_map.specs.ZoneMaps.{TypesRise}
use Rattle.zst_map.proofs.Indexed.{rrset_same}
use Rattle.zst_map.proofs.NamedSets.{type_among}
use Rattle.zst_request.specs.Applied.{LeavesZone, Owned}
use Rattle.zst_draft.specs.OwnerDrafts.{DraftsSets, IsOwnerDraft, Stored, TypesDiffer, drafted_in, is_draft_of}
use Rattle.zst_draft.specs.SetDrafts.{IsSetBy, IsSetDraft, set_in}
use Rattle.zst_draft.specs.Settling.{CanSettle, CanSettleAll, CanSettleOwner, Drafted, IsOverStored, IsSetOf, KeysDiffer, value_at}
use Rattle.zst_draft.specs.ZoneDrafts.{AreOwned, DraftsAt, DraftsZone, IsDraftAt}
use Rattle.zst_draft.specs.declared.owner.OwnerDraft.{OwnerDraft}
use Rattle.zst_draft.specs.declared.records.RecordsDraft.{RecordsDraft}
use Rattle.zst_draft.specs.declared.set.SetDraft.{SetDraft}
use Rattle.zst_draft.specs.declared.zone.ZoneDraft.{ZoneDraft}
use Rattle.zst_draft.proofs.Names.{IsLower}
use Rattle.zst_draft.proofs.OwnedSets.{IsOwned, found_owned}
use Rattle.zst_draft.proofs.OwnerSets.{owner_once}
use Rattle.zst_draft.proofs.Settled.{apart_flipped, away_flipped as type_apart}
use Rattle.zst_draft.proofs.DraftedZones.{drafted_alike, name_rises}

-- ---- one owner
over_by : (stored : Option RRset) (t : RecordType) (d : Option RecordsDraft) → IsSetBy stored t d → IsOverStored stored d
over_by stored t None is = tt
over_by stored t (Some draft) is = is

set_of_owned : (name : DomainName) (sets : List RRset) (t : RecordType) (o : Option RRset) → AreOwned name sets → set_of_type t sets ≡ o → IsSetOf name o
set_of_owned name sets t None owned e = tt
set_of_owned name sets t (Some s) owned e = found_owned (IsOwned name) t sets s owned e

first_of_type : (stored : Stored) (e : SetDraft) (es : List SetDraft) → drafted_in stored (e ∷ es) e.record_type ≡ set_in (stored e.record_type) e
first_of_type stored e es =
    ap (λ (b : Bool). cond b (set_in (stored e.record_type) e) (drafted_in stored es e.record_type)) (eq-eqb (record_type_number e.record_type) (record_type_number e.record_type) refl)

later_of_type : (stored : Stored) (e : SetDraft) (es later : List SetDraft) → AllByRecursion (λ other. is_draft_of e.record_type other ≡ false) later
    → AllByRecursion (λ d. drafted_in stored es d.record_type ≡ set_in (stored d.record_type) d) later → AllByRecursion (λ d. drafted_in stored (e ∷ es) d.record_type ≡ set_in (stored d.record_type) d) later
later_of_type stored e es [] apart own = tt
later_of_type stored e es (d ∷ later) apart own = (
  ap (λ (b : Bool). cond b (set_in (stored e.record_type) e) (drafted_in stored es d.record_type)) (type_apart d.record_type e.record_type apart.0) ∙ own.0,
  later_of_type stored e es later apart.1 own.1,
)

each_of_type : (stored : Stored) (es : List SetDraft) → TypesDiffer es → AllByRecursion (λ d. drafted_in stored es d.record_type ≡ set_in (stored d.record_type) d) es
each_of_type stored [] differ = tt
each_of_type stored (e ∷ es) differ = (first_of_type stored e es, later_of_type stored e es es differ.0 (each_of_type stored es differ.1))

can_each : (sets at : List RRset) (name : DomainName) (all es : List SetDraft) → AreOwned name at → ((t : RecordType) → set_of_type t at ≡ drafted_in (rrset_at sets name) all t)
    → AllByRecursion (λ draft. IsSetDraft (rrset_at sets name draft.record_type) draft) es
    → AllByRecursion (λ d. drafted_in (rrset_at sets name) all d.record_type ≡ set_in (rrset_at sets name d.record_type) d) es → AllByRecursion (CanSettle sets name) es
can_each sets at name all [] owned alike each own = tt
can_each sets at name all (e ∷ es) owned alike each own = (
  record {
    is = over_by (rrset_at sets name e.record_type) e.record_type e.records each.0;
    set = set_of_owned name at e.record_type (set_in (rrset_at sets name e.record_type) e) owned (alike e.record_type ∙ own.0);
  },
  can_each sets at name all es owned alike each.1 own.1,
)

can_owner : (sets at : List RRset) (name : DomainName) (es : List SetDraft) → AreOwned name at → IsLower name → DraftsSets (rrset_at sets name) es at → IsOwnerDraft (rrset_at sets name) es
    → CanSettleOwner sets name es
can_owner sets at name es owned lower drafts is = record {
  each = can_each sets at name es es owned drafts.alike is.each (each_of_type (rrset_at sets name) es is.differ);
  differ = is.differ;
  all = is.all;
  lower = lower;
}

-- ---- all owners
keys_apart : (key : DomainName) (ps : Drafted) → AllByRecursion (λ later. name_eq key later ≡ false) (keys_of ps) → AllByRecursion (λ other. name_eq key other.0 ≡ false) ps
keys_apart key [] all = tt
keys_apart key (p ∷ ps) all = (all.0, keys_apart key ps all.1)

pub keys_differ : (ps : Drafted) → IsDistinct name_eq (keys_of ps) → KeysDiffer ps
unfolding IsDistinct
keys_differ [] unique = tt
keys_differ (p ∷ ps) unique = (keys_apart p.0 ps unique.0, keys_differ ps unique.1)

abbrev owner_of : DomainName → Drafted → Option OwnerDraft
owner_of name ps = lookup (name_eq name) ps

own_owner : (p : DomainName × OwnerDraft) (ps : Drafted) → owner_of p.0 (p ∷ ps) ≡ Some p.1
own_owner p ps = ap (λ (b : Bool). cond b (Some p.1) (owner_of p.0 ps)) (name_eq_equiv.refl p.0)

later_owner : (p : DomainName × OwnerDraft) (ps later : Drafted) → AllByRecursion (λ other. name_eq p.0 other.0 ≡ false) later → AllByRecursion (λ q. owner_of q.0 ps ≡ Some q.1) later
    → AllByRecursion (λ q. owner_of q.0 (p ∷ ps) ≡ Some q.1) later
later_owner p ps [] apart own = tt
later_owner p ps (q ∷ later) apart own =
    (ap (λ (b : Bool). cond b (Some p.1) (owner_of q.0 ps)) (apart_flipped p.0 q.0 apart.0) ∙ own.0, later_owner p ps later apart.1 own.1)

each_owner : (ps : Drafted) → KeysDiffer ps → AllByRecursion (λ q. owner_of q.0 ps ≡ Some q.1) ps
each_owner [] differ = tt
each_owner (p ∷ ps) differ = (own_owner p ps, later_owner p ps ps differ.0 (each_owner ps differ.1))

can_owners : (zone : Zone) (draft : ZoneDraft) (at : Owned) (ps : Drafted) → DraftsZone zone draft at → AllByRecursion (λ q. get name_eq draft.owners q.0 ≡ Some q.1) ps
    → AllByRecursion IsLower (keys_of ps) → AllByRecursion (λ owner. CanSettleOwner zone.sets owner.0 owner.1.sets.items) ps
can_owners zone draft at [] drafts own lower = tt
can_owners zone draft at (p ∷ ps) drafts own lower = (
  can_owner zone.sets (at p.0) p.0 p.1.sets.items (drafts.owned p.0) lower.0
      (subst (λ (o : Option OwnerDraft). DraftsAt zone.sets p.0 o (at p.0)) own.0 (drafts.alike p.0))
      (subst (IsDraftAt zone.sets p.0) own.0 (drafts.each p.0)),
  can_owners zone draft at ps drafts own.1 lower.1,
)

pub can_commit : (zone : Zone) (draft : ZoneDraft) (at : Owned) → IsUnique name_eq draft.owners → DraftsZone zone draft at → CanSettleAll zone.sets draft.owners.entries
can_commit zone draft at unique drafts =
    let differ = keys_differ draft.owners.entries unique in
    record { each = can_owners zone draft at draft.owners.entries drafts (each_owner draft.owners.entries differ) drafts.lower; differ = differ }

-- ---- the set of each name and type
abbrev value_of : List RRset → DomainName → Option OwnerDraft → RecordType → Option RRset
value_of sets name None t = rrset_at sets name t
value_of sets name (Some owner) t = drafted_in (rrset_at sets name) owner.sets.items t

value_found : (sets : List RRset) (ps : Drafted) (name : DomainName) (t : RecordType) → value_at sets ps name t ≡ value_of sets name (owner_of name ps) t
value_found sets [] name t = refl
value_found sets (p ∷ ps) name t =
    ap (cond (name_eq name p.0) (drafted_in (rrset_at sets p.0) p.1.sets.items t)) (value_found sets ps name t)
    ∙ by (name_eq name p.0) refl
  where
    by : (b : Bool) → name_eq name p.0 ≡ b
        → cond b (drafted_in (rrset_at sets p.0) p.1.sets.items t) (value_of sets name (owner_of name ps) t) ≡ value_of sets name (cond (name_eq name p.0) (Some p.1) (owner_of name ps)) t
    by true same =
        drafted_alike (rrset_at sets p.0) (rrset_at sets name) p.1.sets.items t (λ u. rrset_same sets name p.0 u same)
        ∙ ap (λ (b : Bool). value_of sets name (cond b (Some p.1) (owner_of name ps)) t) (sym same)
    by false apart = ap (λ (b : Bool). value_of sets name (cond b (Some p.1) (owner_of name ps)) t) (sym apart)

drafted_value : (sets at : List RRset) (name : DomainName) (o : Option OwnerDraft) (t : RecordType) → DraftsAt sets name o at → value_of sets name o t ≡ set_of_type t at
drafted_value sets at name None t same = type_among sets name t ∙ ap (set_of_type t) (sym same)
drafted_value sets at name (Some owner) t drafts = sym (drafts.alike t)

rises : (sets at : List RRset) (name : DomainName) (o : Option OwnerDraft) → AreInOrder sets → DraftsAt sets name o at → TypesRise at
rises sets at name None order same = subst TypesRise (sym same) (name_rises name sets order)
rises sets at name (Some owner) order drafts = drafts.rise

-- What stores the drafted set at each name and type is what the draft is of.
pub leaves_zone : (old new : Zone) (draft : ZoneDraft) (at : Owned) → AreInOrder old.sets → AreInOrder new.sets → AreStored new.sets → new ≡ record old { sets = new.sets }
    → ((name : DomainName) (t : RecordType) → rrset_at new.sets name t ≡ value_at old.sets draft.owners.entries name t) → DraftsZone old draft at → LeavesZone old at new
leaves_zone old new draft at first order stored rest values drafts = record {
  sets = λ name. owner_once (sets_of_name new.sets name) (at name) (name_rises name new.sets order)
      (rises old.sets (at name) name (get name_eq draft.owners name) first (drafts.alike name))
      (λ t. sym (type_among new.sets name t) ∙ values name t ∙ value_found old.sets draft.owners.entries name t
      ∙ drafted_value old.sets (at name) name (get name_eq draft.owners name) t (drafts.alike name));
  ordered = order;
  stored = stored;
  rest = rest;
}
