-- The drafts of a zone, name by name, and what a record of an update makes of them.
use Rattle.std.proofs.Common.{◌≡◌, ℕ, ◌<◌, refl, ap, sym, ◌∙◌, arith, subst}
use Rattle.std.specs.Prelude.{Bool, true, false, ◌&&◌, ◌||◌, ◌==◌, List, [], ◌∷◌, ◌++◌, Option, Some, None, cond, find}
use Rattle.std.specs.HashMap.{IsReordered, PutsEntry, Updates, get, keys}
use Rattle.std.specs.List.{AllByRecursion}
use Rattle.std.specs.List.Sorted.{IsPermutation}
use Rattle.std.specs.Map.{keys_of, lookup}
use Rattle.std.specs.Ordering.{MatchOrdering, is_eq, nat_cmp, ordering_then}
use Rattle.std.specs.declared.cmp.Ordering.{Ordering}
use Rattle.std.specs.declared.cmp.Ordering.TheVariants.{Less, Equal, Greater}
use Rattle.std.proofs.lemmas.Bool.{eqb-true, ne_eqb}
use Rattle.std.proofs.lemmas.Cmp.{ranked}
use Rattle.std.proofs.lemmas.List.Elements.{All-from_recursion, recursion_from_All}
use Rattle.std.proofs.lemmas.List.Sorted.{All-permutation, IsPermutation-map}
use Rattle.zst_map.specs.dnw_codes.declared.record_type.RecordType.{RecordType}
use Rattle.zst_map.specs.dnw_codes.RecordType.{record_type_number, same_record_type}
use Rattle.zst_map.specs.dnw_name.DomainName.{DomainName, lowercase_name, name_cmp, name_eq}
use Rattle.zst_map.specs.dnw_name.NameOrderLaws.{name_eq-by_cmp}
use Rattle.zst_map.specs.drd_rdata.Types.{type_of}
use Rattle.zst_map.specs.zst_handler.Lookups.{sets_of_name}
use Rattle.zst_map.specs.zst_handler.Updates.{set_of_type}
use Rattle.zst_map.specs.zst_handler.Zones.{AreInOrder, AreStored, IsStored, Zone, rrset_at, set_cmp}
use Rattle.zst_map.specs.zst_record.RecordLaws.{name_eq_equiv}
use Rattle.zst_map.specs.zst_record.RecordSets.{RRset}
use Rattle.zst_map.specs.zst_record.declared.records.Record.{Record}
use Rattle.zst_map.specs.ZoneMaps.{TypesRise}
use Rattle.zst_map.proofs.Indexed.{rrset_same}
use Rattle.zst_map.proofs.NamedSets.{type_among}
use Rattle.zst_request.specs.Applied.{Owned, all_applied, any_changes, applied, changes, changes_by, left_by}
use Rattle.zst_draft.specs.OwnerDrafts.{Applies, AreAsStored, DraftsSets, IsOwnerDraft, Stored, TypesDiffer, drafted_in, is_draft_of}
use Rattle.zst_draft.specs.SetDrafts.{IsSetBy, IsSetDraft, set_by, set_in}
use Rattle.zst_draft.specs.ZoneDrafts.{AreOwned, Begins, DraftsAt, DraftsZone, IsDraftAt}
use Rattle.zst_draft.specs.declared.owner.OwnerDraft.{OwnerDraft}
use Rattle.zst_draft.specs.declared.set.SetDraft.{SetDraft}
use Rattle.zst_draft.specs.declared.zone.ZoneDraft.{ZoneDraft}
use Rattle.zst_draft.proofs.DraftedTypes.{IsByNumber}
use Rattle.zst_draft.proofs.Names.{IsLower, chained, eq_lower, flipped, key_is, lower_key, sets_same}
use Rattle.zst_draft.proofs.OwnedSets.{left_owned}
use Rattle.zst_draft.proofs.OwnerSets.{all_kept, found_own}

-- ---- what is stored, by number and by name
at_number : (sets : List RRset) (name : DomainName) (t u : RecordType) → same_record_type t u ≡ true → rrset_at sets name t ≡ rrset_at sets name u
at_number sets name t u same = ap (λ (n : ℕ). by sets n) (eqb-true (record_type_number t) (record_type_number u) same)
  where
    by : List RRset → ℕ → Option RRset
    by sets n = find (λ set. name_eq name set.name && (record_type_number set.record_type == n)) sets

pub by_number : (sets : List RRset) (name : DomainName) → IsByNumber (rrset_at sets name)
by_number sets name = λ t u same. at_number sets name t u same

pub drafted_alike : (first second : Stored) (es : List SetDraft) (t : RecordType) → ((u : RecordType) → first u ≡ second u) → drafted_in first es t ≡ drafted_in second es t
drafted_alike first second [] t same = refl
drafted_alike first second (e ∷ es) t same =
    ap (λ (o : Option RRset). cond (is_draft_of t e) (set_in o e) (drafted_in first es t)) (same e.record_type)
    ∙ ap (cond (is_draft_of t e) (set_in (second e.record_type) e)) (drafted_alike first second es t same)

each_alike : (first second : Stored) (es : List SetDraft) → ((u : RecordType) → first u ≡ second u) → AllByRecursion (λ draft. IsSetDraft (first draft.record_type) draft) es
    → AllByRecursion (λ draft. IsSetDraft (second draft.record_type) draft) es
each_alike first second [] same all = tt
each_alike first second (e ∷ es) same all =
    (subst (λ (o : Option RRset). IsSetDraft o e) (same e.record_type) all.0, each_alike first second es same all.1)

pub owner_alike : (first second : Stored) (es : List SetDraft) → ((u : RecordType) → first u ≡ second u) → IsOwnerDraft first es → IsOwnerDraft second es
owner_alike first second es same is = record {
  each = each_alike first second es same is.each;
  differ = is.differ;
  all = λ t none. sym (same t) ∙ is.all t none;
}

pub drafts_alike : (first second : Stored) (es : List SetDraft) (sets : List RRset) → ((u : RecordType) → first u ≡ second u) → DraftsSets first es sets → DraftsSets second es sets
drafts_alike first second es sets same drafts = record { rise = drafts.rise; alike = λ t. drafts.alike t ∙ drafted_alike first second es t same }

-- ---- the sets of one name
less_number : (m n : ℕ) → nat_cmp m n ≡ Less → m < n
less_number m n e = by (nat_cmp m n) (ranked m n (nat_cmp m n) refl) e
  where
    by : (o : Ordering) → MatchOrdering o (m < n) (m ≡ n) (n < m) → o ≡ Less → m < n
    by Less is e = is
    by Equal is e = let h : ⊥ = cc in absurd h
    by Greater is e = let h : ⊥ = cc in absurd h

is_equal : (o : Ordering) → is_eq o ≡ true → o ≡ Equal
is_equal Less e = cc
is_equal Equal e = refl
is_equal Greater e = cc

number_rises : (name : DomainName) (a b : RRset) → name_eq name a.name ≡ true → name_eq name b.name ≡ true → set_cmp a b ≡ Less → record_type_number a.record_type < record_type_number b.record_type
number_rises name a b first second less =
    let owner : name_cmp a.name b.name ≡ Equal = is_equal (name_cmp a.name b.name) (sym (name_eq-by_cmp a.name b.name) ∙ chained a.name name b.name (flipped name a.name first) second) in
    less_number (record_type_number a.record_type) (record_type_number b.record_type)
    (sym (ap (λ (o : Ordering). ordering_then o (nat_cmp (record_type_number a.record_type) (record_type_number b.record_type))) owner) ∙ less)

above_all : (name : DomainName) (s : RRset) (sets : List RRset) → name_eq name s.name ≡ true → AllByRecursion (λ later. set_cmp s later ≡ Less) sets
    → AllByRecursion (λ later. record_type_number s.record_type < record_type_number later.record_type) (sets_of_name sets name)
above_all name s [] own all = tt
above_all name s (x ∷ sets) own all = by (name_eq name x.name) refl (above_all name s sets own all.1)
  where
    by : (b : Bool) → name_eq name x.name ≡ b → AllByRecursion (λ later. record_type_number s.record_type < record_type_number later.record_type) (sets_of_name sets name)
        → AllByRecursion (λ later. record_type_number s.record_type < record_type_number later.record_type) (cond b (x ∷ sets_of_name sets name) (sets_of_name sets name))
    by true is more = (number_rises name s x own is all.0, more)
    by false is more = more

pub name_rises : (name : DomainName) (sets : List RRset) → AreInOrder sets → TypesRise (sets_of_name sets name)
name_rises name [] order = tt
name_rises name (s ∷ sets) order = by (name_eq name s.name) refl (name_rises name sets order.1)
  where
    by : (b : Bool) → name_eq name s.name ≡ b → TypesRise (sets_of_name sets name) → TypesRise (cond b (s ∷ sets_of_name sets name) (sets_of_name sets name))
    by true is more = (above_all name s sets is order.0, more)
    by false is more = more

pub name_owned : (name : DomainName) (sets : List RRset) → AreStored sets → AreOwned name (sets_of_name sets name)
name_owned name [] all = tt
name_owned name (s ∷ sets) all = by (name_eq name s.name) refl (name_owned name sets all.1)
  where
    by : (b : Bool) → name_eq name s.name ≡ b → AreOwned name (sets_of_name sets name) → AreOwned name (cond b (s ∷ sets_of_name sets name) (sets_of_name sets name))
    by true is more = ((all.0, is), more)
    by false is more = more

-- ---- drafts of the stored sets
-- Each set is the one of its type.
own_step : (s : RRset) (sets later : List RRset) → AllByRecursion (λ u. record_type_number s.record_type < record_type_number u.record_type) later
    → AllByRecursion (λ u. set_of_type u.record_type sets ≡ Some u) later → AllByRecursion (λ u. set_of_type u.record_type (s ∷ sets) ≡ Some u) later
own_step s sets [] above own = tt
own_step s sets (u ∷ later) above own = (
  ap (λ (b : Bool). cond b (Some s) (set_of_type u.record_type sets))
      (ne_eqb (record_type_number s.record_type) (record_type_number u.record_type)
      (λ (h : record_type_number s.record_type ≡ record_type_number u.record_type). let g : record_type_number s.record_type < record_type_number u.record_type = above.0 in omega (arith, g, h)))
      ∙ own.0,
  own_step s sets later above.1 own.1,
)

each_own : (sets : List RRset) → TypesRise sets → AllByRecursion (λ u. set_of_type u.record_type sets ≡ Some u) sets
each_own [] rise = tt
each_own (s ∷ sets) rise = (found_own s sets, own_step s sets sets rise.0 (each_own sets rise.1))

set_as : (stored : Option RRset) (e : SetDraft) → e.records ≡ None → set_in stored e ≡ stored
set_as stored e none = ap (set_by stored e.record_type) none

each_as : (stored : Stored) (sets : List RRset) (es : List SetDraft) → AreAsStored sets es → AllByRecursion IsStored sets → AllByRecursion (λ u. stored u.record_type ≡ Some u) sets
    → AllByRecursion (λ draft. IsSetDraft (stored draft.record_type) draft) es
each_as stored [] [] left all own = tt
each_as stored [] (e ∷ es) left all own = absurd left
each_as stored (s ∷ sets) [] left all own = absurd left
each_as stored (s ∷ sets) (e ∷ es) (kind, none, more) all own = (
  subst (IsSetBy (stored e.record_type) e.record_type) (sym none)
      (subst (λ (o : Option RRset). IsSetBy o e.record_type None) (sym (ap stored kind ∙ own.0)) (all.0, kind)),
  each_as stored sets es more all.1 own.1,
)

none_as : (t : RecordType) (n : ℕ) (sets : List RRset) (es : List SetDraft) → AreAsStored sets es → record_type_number t ≡ n
    → AllByRecursion (λ u. n < record_type_number u.record_type) sets → AllByRecursion (λ other. is_draft_of t other ≡ false) es
none_as t n [] [] left is above = tt
none_as t n [] (e ∷ es) left is above = absurd left
none_as t n (s ∷ sets) [] left is above = absurd left
none_as t n (s ∷ sets) (e ∷ es) (kind, none, more) is above = (
  ap (λ (u : RecordType). same_record_type u t) kind
      ∙ ne_eqb (record_type_number s.record_type) (record_type_number t)
      (λ (h : record_type_number s.record_type ≡ record_type_number t). let g : n < record_type_number s.record_type = above.0 in omega (arith, g, h, is)),
  none_as t n sets es more is above.1,
)

differ_as : (sets : List RRset) (es : List SetDraft) → AreAsStored sets es → TypesRise sets → TypesDiffer es
differ_as [] [] left rise = tt
differ_as [] (e ∷ es) left rise = absurd left
differ_as (s ∷ sets) [] left rise = absurd left
differ_as (s ∷ sets) (e ∷ es) (kind, none, more) rise =
    (none_as e.record_type (record_type_number s.record_type) sets es more (ap record_type_number kind) rise.0, differ_as sets es more rise.1)

missing_as : (t : RecordType) (sets : List RRset) (es : List SetDraft) → AreAsStored sets es → find (is_draft_of t) es ≡ None → set_of_type t sets ≡ None
missing_as t [] [] left none = refl
missing_as t [] (e ∷ es) left none = absurd left
missing_as t (s ∷ sets) [] left none = absurd left
missing_as t (s ∷ sets) (e ∷ es) (kind, as_is, more) none =
    ap (λ (u : RecordType). cond (same_record_type u t) (Some s) (set_of_type t sets)) (sym kind) ∙ by (is_draft_of t e) none (missing_as t sets es more)
  where
    by : (b : Bool) → cond b (Some e) (find (is_draft_of t) es) ≡ None → (find (is_draft_of t) es ≡ None → set_of_type t sets ≡ None) → cond b (Some s) (set_of_type t sets) ≡ None
    by true none more = let h : ⊥ = cc in absurd h
    by false none more = more none

alike_as : (stored : Stored) (sets : List RRset) (es : List SetDraft) (t : RecordType) → AreAsStored sets es → AllByRecursion (λ u. stored u.record_type ≡ Some u) sets
    → set_of_type t sets ≡ drafted_in stored es t
alike_as stored [] [] t left own = refl
alike_as stored [] (e ∷ es) t left own = absurd left
alike_as stored (s ∷ sets) [] t left own = absurd left
alike_as stored (s ∷ sets) (e ∷ es) t (kind, none, more) own =
    ap (λ (u : RecordType). cond (same_record_type u t) (Some s) (set_of_type t sets)) (sym kind)
    ∙ ap (λ (o : Option RRset). cond (is_draft_of t e) o (set_of_type t sets)) (sym (set_as (stored e.record_type) e none ∙ ap stored kind ∙ own.0))
    ∙ ap (cond (is_draft_of t e) (set_in (stored e.record_type) e)) (alike_as stored sets es t more own.1)

own_in : (stored : Stored) (own sets : List RRset) → ((t : RecordType) → stored t ≡ set_of_type t own) → AllByRecursion (λ u. set_of_type u.record_type own ≡ Some u) sets
    → AllByRecursion (λ u. stored u.record_type ≡ Some u) sets
own_in stored own [] same all = tt
own_in stored own (u ∷ sets) same all = (same u.record_type ∙ all.0, own_in stored own sets same all.1)

pub record OverName (sets : List RRset) (key : DomainName) (es : List SetDraft) : Type 0 where
  pub is : IsOwnerDraft (rrset_at sets key) es
  pub alike : DraftsSets (rrset_at sets key) es (sets_of_name sets key)

pub over_name : (sets : List RRset) (key : DomainName) (es : List SetDraft) → AreInOrder sets → AreStored sets → AreAsStored (sets_of_name sets key) es → OverName sets key es
over_name sets key es order all left =
    let stored = rrset_at sets key in
    let own = sets_of_name sets key in
    let rise = name_rises key sets order in
    let each : AllByRecursion (λ u. stored u.record_type ≡ Some u) own = own_in stored own own (type_among sets key) (each_own own rise) in
    record {
      is = record {
        each = each_as stored own es left (all_kept IsStored (λ set. name_eq key set.name) sets all) each;
        differ = differ_as own es left rise;
        all = λ t none. type_among sets key t ∙ missing_as t own es left none;
      };
      alike = record { rise = rise; alike = λ t. alike_as stored own es t left each };
    }

pub left_more : (sets : List RRset) (es : List SetDraft) (s : RRset) (e : SetDraft) → AreAsStored sets es → e.record_type ≡ s.record_type → e.records ≡ None → AreAsStored (sets ++ s ∷ []) (es ++ e ∷ [])
left_more [] [] s e left kind none = (kind, none, tt)
left_more [] (f ∷ es) s e left kind none = absurd left
left_more (u ∷ sets) [] s e left kind none = absurd left
left_more (u ∷ sets) (f ∷ es) s e left kind none = (left.0, left.1, left_more sets es s e left.2 kind none)

-- ---- a new draft
pub new_zone : (zone : Zone) (draft : ZoneDraft) → draft.owners.entries ≡ [] → AreInOrder zone.sets → AreStored zone.sets → DraftsZone zone draft (sets_of_name zone.sets)
new_zone zone draft none order stored = record {
  each = λ name. subst (IsDraftAt zone.sets name) (sym (nothing name)) tt;
  alike = λ name. subst (λ (o : Option OwnerDraft). DraftsAt zone.sets name o (sets_of_name zone.sets name)) (sym (nothing name)) refl;
  owned = λ name. name_owned name zone.sets stored;
  lower = subst (λ (es : List (DomainName × OwnerDraft)). AllByRecursion IsLower (keys_of es)) (sym none) tt;
}
  where
    nothing : (name : DomainName) → get name_eq draft.owners name ≡ None
    nothing name = ap (lookup (name_eq name)) none

-- ---- the map of owners
moved_lower : (es fs : List (DomainName × OwnerDraft)) → IsPermutation es fs → AllByRecursion IsLower (keys_of es) → AllByRecursion IsLower (keys_of fs)
moved_lower es fs moves all =
    recursion_from_All IsLower (keys_of fs)
    (All-permutation IsLower (keys_of es) (keys_of fs) (IsPermutation-map (λ (e : DomainName × OwnerDraft). e.0) es fs moves) (All-from_recursion IsLower (keys_of es) all))

-- The entries may be in another order.
pub moved_zone : (zone : Zone) (old new : ZoneDraft) (at : Owned) → IsReordered name_eq old.owners new.owners → DraftsZone zone old at → DraftsZone zone new at
moved_zone zone old new at moves drafts = record {
  each = λ name. subst (IsDraftAt zone.sets name) (sym (moves.2 name)) (drafts.each name);
  alike = λ name. subst (λ (o : Option OwnerDraft). DraftsAt zone.sets name o (at name)) (sym (moves.2 name)) (drafts.alike name);
  owned = drafts.owned;
  lower = moved_lower old.owners.entries new.owners.entries moves.0 drafts.lower;
}

name_alike : (sets : List RRset) (a b : DomainName) → name_eq a b ≡ true → (u : RecordType) → rrset_at sets b u ≡ rrset_at sets a u
name_alike sets a b same u = rrset_same sets a b u same

-- What is applied to an owner's drafts is applied to the zone's.
pub applied_owner : (zone : Zone) (old new : ZoneDraft) (key : DomainName) (r : Record) (first last : OwnerDraft) (at_apex changed : Bool) (at : Owned)
    → key ≡ lowercase_name r.name → at_apex ≡ name_eq r.name zone.origin
    → ((q : DomainName) → get name_eq new.owners q ≡ cond (name_eq key q) (Some last) (get name_eq old.owners q)) → AllByRecursion IsLower (keys new.owners)
    → Applies (rrset_at zone.sets key) first.sets.items at_apex r r.dns_class changed last.sets.items
    → ((name : DomainName) → name_eq r.name name ≡ true → DraftsSets (rrset_at zone.sets key) first.sets.items (at name))
    → DraftsZone zone old at → (changed ≡ changes zone.origin at r) × DraftsZone zone new (applied zone.origin at r)
applied_owner zone old new key r first last at_apex changed at keyed start put lower applies from drafts = (
  applies.changes (at r.name) (from r.name (name_eq_equiv.refl r.name)) ∙ ap (λ (b : Bool). changes_by b (at r.name) r r.dns_class) start,
  record {
    each = λ name. subst (IsDraftAt zone.sets name) (sym (put name ∙ ap (λ (b : Bool). cond b (Some last) (get name_eq old.owners name)) (key_is (type_of r.rdata) key r.name name keyed)))
        (each name (name_eq r.name name) refl);
    alike = λ name. subst (λ (o : Option OwnerDraft). DraftsAt zone.sets name o (applied zone.origin at r name))
        (sym (put name ∙ ap (λ (b : Bool). cond b (Some last) (get name_eq old.owners name)) (key_is (type_of r.rdata) key r.name name keyed)))
        (alike name (name_eq r.name name) refl);
    owned = λ name. owned name (name_eq r.name name) refl;
    lower = lower;
  },
)
  where
    keyed_as : (name : DomainName) → name_eq r.name name ≡ true → (u : RecordType) → rrset_at zone.sets key u ≡ rrset_at zone.sets name u
    keyed_as name same u =
        ap (λ (n : DomainName). rrset_at zone.sets n u) keyed
        ∙ rrset_same zone.sets name (lowercase_name r.name) u
        (flipped (lowercase_name r.name) name (eq_lower (type_of r.rdata) r.name name ∙ same))

    each : (name : DomainName) (b : Bool) → name_eq r.name name ≡ b → IsDraftAt zone.sets name (cond b (Some last) (get name_eq old.owners name))
    each name true same = owner_alike (rrset_at zone.sets key) (rrset_at zone.sets name) last.sets.items (keyed_as name same) applies.is
    each name false same = drafts.each name

    alike : (name : DomainName) (b : Bool) → name_eq r.name name ≡ b
        → DraftsAt zone.sets name (cond b (Some last) (get name_eq old.owners name)) (cond b (left_by (name_eq r.name zone.origin) (at name) r r.dns_class) (at name))
    alike name true same =
        drafts_alike (rrset_at zone.sets key) (rrset_at zone.sets name) last.sets.items (left_by (name_eq r.name zone.origin) (at name) r r.dns_class) (keyed_as name same)
        (subst (λ (b : Bool). DraftsSets (rrset_at zone.sets key) last.sets.items (left_by b (at name) r r.dns_class)) start (applies.leaves (at name) (from name same)))
    alike name false same = drafts.alike name

    owned : (name : DomainName) (b : Bool) → name_eq r.name name ≡ b → AreOwned name (cond b (left_by (name_eq r.name zone.origin) (at name) r r.dns_class) (at name))
    owned name true same = left_owned name (name_eq r.name zone.origin) (at name) r r.dns_class (drafts.owned name) same
    owned name false same = drafts.owned name

get_same : (es : List (DomainName × OwnerDraft)) (a b : DomainName) → name_eq a b ≡ true → lookup (name_eq a) es ≡ lookup (name_eq b) es
get_same [] a b same = refl
get_same (e ∷ es) a b same =
    ap (λ (c : Bool). cond c (Some e.1) (lookup (name_eq a) es)) (name_eq_equiv.congr a b e.0 same)
    ∙ ap (cond (name_eq b e.0) (Some e.1)) (get_same es a b same)

own_key : (key name : DomainName) (r : Record) → key ≡ lowercase_name r.name → name_eq r.name name ≡ true → name_eq name key ≡ true
own_key key name r keyed same =
    flipped key name (ap (λ (n : DomainName). name_eq n name) keyed ∙ eq_lower (type_of r.rdata) r.name name ∙ same)

pub applied_found : (zone : Zone) (old new : ZoneDraft) (key : DomainName) (r : Record) (first last : OwnerDraft) (at_apex changed : Bool) (at : Owned)
    → key ≡ lowercase_name r.name → at_apex ≡ name_eq r.name zone.origin → get name_eq old.owners key ≡ Some first → Updates name_eq old.owners new.owners key (Some last)
    → keys new.owners ≡ keys old.owners
    → Applies (rrset_at zone.sets key) first.sets.items at_apex r r.dns_class changed last.sets.items
    → DraftsZone zone old at → (changed ≡ changes zone.origin at r) × DraftsZone zone new (applied zone.origin at r)
applied_found zone old new key r first last at_apex changed at keyed start found put same_keys applies drafts =
    applied_owner zone old new key r first last at_apex changed at keyed start put.0 (subst (AllByRecursion IsLower) (sym same_keys) drafts.lower) applies from drafts
  where
    from : (name : DomainName) → name_eq r.name name ≡ true → DraftsSets (rrset_at zone.sets key) first.sets.items (at name)
    from name same =
        let own = own_key key name r keyed same in
        drafts_alike (rrset_at zone.sets name) (rrset_at zone.sets key) first.sets.items (at name) (λ u. sym (rrset_same zone.sets name key u own))
        (subst (λ (o : Option OwnerDraft). DraftsAt zone.sets name o (at name)) (get_same old.owners.entries name key own ∙ found) (drafts.alike name))

pub applied_begun : (zone : Zone) (old new : ZoneDraft) (key : DomainName) (r : Record) (at_apex changed : Bool) (at : Owned)
    → key ≡ lowercase_name r.name → at_apex ≡ name_eq r.name zone.origin → get name_eq old.owners key ≡ None → Begins zone.sets old.owners key at_apex r changed new.owners
    → DraftsZone zone old at → (changed ≡ changes zone.origin at r) × DraftsZone zone new (applied zone.origin at r)
applied_begun zone old new key r at_apex changed at keyed start none begins drafts =
    applied_owner zone old new key r begins.first begins.last at_apex changed at keyed start begins.put.0 lower begins.applies from drafts
  where
    entries : PutsEntry name_eq old.owners new.owners key begins.last None
    entries = subst (PutsEntry name_eq old.owners new.owners key begins.last) none begins.entries

    lower : AllByRecursion IsLower (keys new.owners)
    lower = moved_lower ((key, begins.last) ∷ old.owners.entries) new.owners.entries entries (lower_key (type_of r.rdata) key r.name keyed, drafts.lower)

    from : (name : DomainName) → name_eq r.name name ≡ true → DraftsSets (rrset_at zone.sets key) begins.first.sets.items (at name)
    from name same =
        let own = own_key key name r keyed same in
        let stored : at name ≡ sets_of_name zone.sets name = subst (λ (o : Option OwnerDraft). DraftsAt zone.sets name o (at name)) (get_same old.owners.entries name key own ∙ none) (drafts.alike name) in
        subst (DraftsSets (rrset_at zone.sets key) begins.first.sets.items) (sym (stored ∙ sets_same zone.sets name key own)) begins.alike

-- ---- records, one after the other
pub applied_more : (origin : DomainName) (at : Owned) (rs : List Record) (r : Record) → all_applied origin at (rs ++ r ∷ []) ≡ applied origin (all_applied origin at rs) r
applied_more origin at [] r = refl
applied_more origin at (s ∷ rs) r = applied_more origin (applied origin at s) rs r

or_assoc : (a b c : Bool) → (a || (b || c)) ≡ ((a || b) || c)
or_assoc true b c = refl
or_assoc false b c = refl

or_false : (b : Bool) → (b || false) ≡ b
or_false true = refl
or_false false = refl

pub changes_more : (origin : DomainName) (at : Owned) (rs : List Record) (r : Record) → any_changes origin at (rs ++ r ∷ []) ≡ (any_changes origin at rs || changes origin (all_applied origin at rs) r)
changes_more origin at [] r = or_false (changes origin at r)
changes_more origin at (s ∷ rs) r =
    ap (λ (b : Bool). changes origin at s || b) (changes_more origin (applied origin at s) rs r)
    ∙ or_assoc (changes origin at s) (any_changes origin (applied origin at s) rs) (changes origin (all_applied origin (applied origin at s) rs) r)
