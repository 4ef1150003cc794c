-- A drafted set is put into the zone, and with what remains of the drafts each set is the drafted one still.
use Rattle.std.proofs.Common.{◌≡◌, ◌⊎◌, inl, inr, ℕ, ◌+◌, suc, zero, refl, ap, sym, ◌∙◌, arith, subst, take}
use Rattle.std.specs.Prelude.{Bool, true, false, ◌&&◌, ◌==◌, List, [], ◌∷◌, ◌++◌, Option, Some, None, IsSome, cond, find, set, slice_get}
use Rattle.std.specs.List.{AllByRecursion}
use Rattle.std.proofs.lemmas.Bool.{eq-eqb, eqb-true, ne_eqb, true≢false}
use Rattle.zst_map.specs.dnw_codes.declared.record_type.RecordType.{RecordType}
use Rattle.zst_map.specs.dnw_codes.RecordType.{record_type_number, same_record_type}
use Rattle.zst_map.specs.dnw_name.DomainName.{DomainName, name_eq}
use Rattle.zst_map.specs.zst_handler.Updates.{ZoneReplaces}
use Rattle.zst_map.specs.zst_handler.Zones.{Zone, rrset_at}
use Rattle.zst_map.specs.zst_record.RecordLaws.{name_eq_equiv}
use Rattle.zst_map.specs.zst_record.RecordSets.{RRset}
use Rattle.zst_map.proofs.Indexed.{rrset_same}
use Rattle.zst_draft.specs.OwnerDrafts.{AllDrafted, Stored, TypesDiffer, drafted_in, is_draft_of}
use Rattle.zst_draft.specs.SetDrafts.{set_by, set_in}
use Rattle.zst_draft.specs.Settling.{AreReady, CanSettle, CanSettleAll, CanSettleOwner, Drafted, IsOverStored, IsReady, IsSetOf, KeysDiffer, Settles, SettlesAll, SettlesOwner, value_at}
use Rattle.zst_draft.specs.declared.owner.OwnerDraft.{OwnerDraft}
use Rattle.zst_draft.specs.declared.records.RecordsDraft.{RecordsDraft}
use Rattle.zst_draft.specs.declared.set.SetDraft.{SetDraft}
use Rattle.zst_draft.proofs.DraftedTypes.{IsByNumber, all_set, differ_set, drafted_found, drafted_none, drafted_set, each_got, found_passes}
use Rattle.zst_draft.proofs.DraftedZones.{by_number, drafted_alike}

-- ---- one set
pub settles_none : (zone : Zone) (key : DomainName) (e : SetDraft) → CanSettle zone.sets key e → Settles zone key e zone e
settles_none zone key e can = record { others = λ name t away. refl; kind = refl; set = refl; can = can; rest = refl }

own_place : (key : DomainName) (t : RecordType) → (name_eq key key && same_record_type t t) ≡ true
own_place key t =
    let owner : name_eq key key ≡ true = name_eq_equiv.refl key in
    let kind : same_record_type t t ≡ true = eq-eqb (record_type_number t) (record_type_number t) refl in
    rw (owner, kind) refl

-- The drafted set was put, and nothing of its draft remains.
pub settles_replaced : (old new : Zone) (key : DomainName) (e f : SetDraft) (o : Option RRset) → ZoneReplaces old key e.record_type o new
    → o ≡ set_in (rrset_at old.sets key e.record_type) e → f.record_type ≡ e.record_type → f.records ≡ None → CanSettle old.sets key e → Settles old key e new f
settles_replaced old new key e f o replaces drafted kind none can =
    let there : rrset_at new.sets key e.record_type ≡ o = replaces.replaces key e.record_type ∙ ap (λ (b : Bool). cond b o (rrset_at old.sets key e.record_type)) (own_place key e.record_type) in
    let is : set_in (rrset_at new.sets key e.record_type) f ≡ set_in (rrset_at old.sets key e.record_type) e = ap (set_by (rrset_at new.sets key e.record_type) f.record_type) none ∙ there ∙ drafted in
    record {
      others = λ name t away. replaces.replaces name t ∙ ap (λ (b : Bool). cond b o (rrset_at old.sets name t)) away;
      kind = kind;
      set = is;
      can = record {
        is = subst (IsOverStored (rrset_at new.sets key f.record_type)) (sym none) tt;
        set = subst (IsSetOf key) (sym (ap (λ (t : RecordType). set_in (rrset_at new.sets key t) f) kind ∙ is)) can.set;
      };
      rest = replaces.rest;
    }

pub ready_none : (zone : Zone) (key : DomainName) (f : SetDraft) → f.records ≡ None → IsReady zone.sets key f
ready_none zone key f none = λ records is. let h : None ≡ Some records = sym none ∙ is in let g : ⊥ = cc in absurd g

-- ---- the sets of one owner
pub away_flipped : (t u : RecordType) → same_record_type t u ≡ false → same_record_type u t ≡ false
away_flipped t u away =
    ne_eqb (record_type_number u) (record_type_number t) (λ (h : record_type_number u ≡ record_type_number t). true≢false (sym (eq-eqb (record_type_number t) (record_type_number u) (sym h)) ∙ away))

-- At other types than one, what is stored is the same.
abbrev SameBut : RecordType → Stored → Stored → Type 0
SameBut k new old = (t : RecordType) → same_record_type k t ≡ false → new t ≡ old t

drafted_away : (k t : RecordType) (new old : Stored) (es : List SetDraft) → SameBut k new old → same_record_type k t ≡ false → drafted_in new es t ≡ drafted_in old es t
drafted_away k t new old [] same away = refl
drafted_away k t new old (d ∷ es) same away = by (is_draft_of t d) refl (drafted_away k t new old es same away)
  where
    by : (b : Bool) → is_draft_of t d ≡ b → drafted_in new es t ≡ drafted_in old es t
        → cond b (set_in (new d.record_type) d) (drafted_in new es t) ≡ cond b (set_in (old d.record_type) d) (drafted_in old es t)
    by true is more =
        ap (λ (o : Option RRset). set_in o d) (same d.record_type (ap (λ (n : ℕ). record_type_number k == n) (eqb-true (record_type_number d.record_type) (record_type_number t) is) ∙ away))
    by false is more = more

got_passes : (t : RecordType) (es : List SetDraft) (i : ℕ) (e : SetDraft) → slice_get es i ≡ Some e → find (is_draft_of t) es ≡ None → is_draft_of t e ≡ false
got_passes t [] i e at none = let h : ⊥ = cc in absurd h
got_passes t (d ∷ es) zero e at none = by (is_draft_of t d) refl none
  where
    by : (b : Bool) → is_draft_of t d ≡ b → cond b (Some d) (find (is_draft_of t) es) ≡ None → is_draft_of t e ≡ false
    by true is none = let h : ⊥ = cc in absurd h
    by false is none = let same : e ≡ d = cc in ap (is_draft_of t) same ∙ is
got_passes t (d ∷ es) (suc i) e at none = by (is_draft_of t d) none (got_passes t es i e at)
  where
    by : (b : Bool) → cond b (Some d) (find (is_draft_of t) es) ≡ None → (find (is_draft_of t) es ≡ None → is_draft_of t e ≡ false) → is_draft_of t e ≡ false
    by true none more = let h : ⊥ = cc in absurd h
    by false none more = more none

-- The draft at a place is the one of its type.
pub got_drafted : (stored : Stored) (es : List SetDraft) (i : ℕ) (e : SetDraft) (t : RecordType) → slice_get es i ≡ Some e → TypesDiffer es → is_draft_of t e ≡ true
    → drafted_in stored es t ≡ set_in (stored e.record_type) e
got_drafted stored [] i e t at differ is = let h : ⊥ = cc in absurd h
got_drafted stored (d ∷ es) zero e t at differ is =
    let same : d ≡ e = cc in
    ap (λ (x : SetDraft). cond (is_draft_of t x) (set_in (stored x.record_type) x) (drafted_in stored es t)) same
    ∙ ap (λ (b : Bool). cond b (set_in (stored e.record_type) e) (drafted_in stored es t)) is
got_drafted stored (d ∷ es) (suc i) e t at differ is =
    let apart : is_draft_of d.record_type e ≡ false = each_got (λ other. is_draft_of d.record_type other ≡ false) es i e differ.0 at in
    ap (λ (b : Bool). cond b (set_in (stored d.record_type) d) (drafted_in stored es t))
    (ne_eqb (record_type_number d.record_type) (record_type_number t)
    (λ (h : record_type_number d.record_type ≡ record_type_number t).
    true≢false (sym (eq-eqb (record_type_number e.record_type) (record_type_number d.record_type) (eqb-true (record_type_number e.record_type) (record_type_number t) is ∙ sym h)) ∙ apart)))
    ∙ got_drafted stored es i e t at differ.1 is

can_away : (old new : List RRset) (key : DomainName) (e d : SetDraft) → SameBut e.record_type (rrset_at new key) (rrset_at old key) → same_record_type e.record_type d.record_type ≡ false
    → CanSettle old key d → CanSettle new key d
can_away old new key e d same away can = record {
  is = subst (λ (o : Option RRset). IsOverStored o d.records) (sym (same d.record_type away)) can.is;
  set = subst (λ (o : Option RRset). IsSetOf key (set_in o d)) (sym (same d.record_type away)) can.set;
}

ready_away : (old new : List RRset) (key : DomainName) (e d : SetDraft) → SameBut e.record_type (rrset_at new key) (rrset_at old key) → same_record_type e.record_type d.record_type ≡ false
    → IsReady old key d → IsReady new key d
ready_away old new key e d same away ready = λ records is. by records (ready records is)
  where
    by : (records : RecordsDraft) → (records.len ≡ 0) ⊎ IsSome (rrset_at old key d.record_type) → (records.len ≡ 0) ⊎ IsSome (rrset_at new key d.record_type)
    by records (inl none) = inl none
    by records (inr some) = inr (subst IsSome (sym (same d.record_type away)) some)

-- All drafts but one keep what is known of them.
module _ (P Q : SetDraft → Type 0) (e f : SetDraft) (moves : (d : SetDraft) → same_record_type e.record_type d.record_type ≡ false → P d → Q d) where
  move_all : (es : List SetDraft) → AllByRecursion (λ other. is_draft_of e.record_type other ≡ false) es → AllByRecursion P es → AllByRecursion Q es
  move_all [] apart all = tt
  move_all (d ∷ es) apart all = (moves d (away_flipped d.record_type e.record_type apart.0) all.0, move_all es apart.1 all.1)

  pub moved : (es : List SetDraft) (i : ℕ) → slice_get es i ≡ Some e → TypesDiffer es → AllByRecursion P es → Q f → AllByRecursion Q (set es i f)
  moved [] i at differ all is = tt
  moved (d ∷ es) zero at differ all is =
      let same : d ≡ e = cc in
      (is, move_all es (subst (λ (x : SetDraft). AllByRecursion (λ other. is_draft_of x.record_type other ≡ false) es) same differ.0) all.1)
  moved (d ∷ es) (suc i) at differ all is =
      (moves d (each_got (λ other. is_draft_of d.record_type other ≡ false) es i e differ.0 at) all.0, moved es i at differ.1 all.1 is)

  -- Only those before it were known of.
  pub moved_first : (es : List SetDraft) (i : ℕ) → slice_get es i ≡ Some e → TypesDiffer es → AllByRecursion P (take i es) → Q f → AllByRecursion Q (take (suc i) (set es i f))
  moved_first [] i at differ all is = let h : ⊥ = cc in absurd h
  moved_first (d ∷ es) zero at differ all is = (is, tt)
  moved_first (d ∷ es) (suc i) at differ all is =
      (moves d (each_got (λ other. is_draft_of d.record_type other ≡ false) es i e differ.0 at) all.0, moved_first es i at differ.1 all.1 is)

pub same_kind : (t u : RecordType) → t ≡ u → same_record_type t u ≡ true
same_kind t u same = eq-eqb (record_type_number t) (record_type_number u) (ap record_type_number same)

pub same_but : (old new : Zone) (key : DomainName) (e f : SetDraft) → Settles old key e new f → SameBut e.record_type (rrset_at new.sets key) (rrset_at old.sets key)
same_but old new key e f settles = λ t away. settles.others key t (ap (λ (b : Bool). name_eq key key && b) away ∙ and_false (name_eq key key))
  where
    and_false : (b : Bool) → (b && false) ≡ false
    and_false true = refl
    and_false false = refl

pub settles_at : (old new : Zone) (key : DomainName) (es : List SetDraft) (i : ℕ) (e f : SetDraft) → CanSettleOwner old.sets key es → slice_get es i ≡ Some e → Settles old key e new f
    → SettlesOwner old key es new (set es i f)
settles_at old new key es i e f can at settles = record {
  others = λ name t apart. settles.others name t (ap (λ (b : Bool). b && same_record_type e.record_type t) apart);
  sets = λ t. drafted_set (rrset_at new.sets key) (by_number new.sets key) e f kind es i t at can.differ ∙ by t (same_record_type e.record_type t) refl;
  can = record {
    each = moved (CanSettle old.sets key) (CanSettle new.sets key) e f (λ d away. can_away old.sets new.sets key e d same away) es i at can.differ can.each settles.can;
    differ = differ_set (rrset_at new.sets key) (by_number new.sets key) e f kind es i at can.differ;
    all = all_set (rrset_at new.sets key) (by_number new.sets key) e f kind es i at (λ t none. same t (got_passes t es i e at none) ∙ can.all t none);
    lower = can.lower;
  };
  rest = settles.rest;
}
  where
    kind : same_record_type f.record_type e.record_type ≡ true
    kind = same_kind f.record_type e.record_type settles.kind

    same : SameBut e.record_type (rrset_at new.sets key) (rrset_at old.sets key)
    same = same_but old new key e f settles

    by : (t : RecordType) (b : Bool) → same_record_type e.record_type t ≡ b
        → cond b (set_in (rrset_at new.sets key e.record_type) f) (drafted_in (rrset_at new.sets key) es t) ≡ drafted_in (rrset_at old.sets key) es t
    by t true is = settles.set ∙ sym (got_drafted (rrset_at old.sets key) es i e t at can.differ is)
    by t false away = drafted_away e.record_type t (rrset_at new.sets key) (rrset_at old.sets key) es same away

pub ready_at : (old new : Zone) (key : DomainName) (es : List SetDraft) (i : ℕ) (e f : SetDraft) → TypesDiffer es → slice_get es i ≡ Some e → Settles old key e new f
    → AllByRecursion (IsReady old.sets key) (take i es) → IsReady new.sets key f → AllByRecursion (IsReady new.sets key) (take (i + 1) (set es i f))
ready_at old new key es i e f differ at settles all is =
    let more : suc i ≡ i + 1 = omega arith in
    subst (λ (n : ℕ). AllByRecursion (IsReady new.sets key) (take n (set es i f))) more
    (moved_first (IsReady old.sets key) (IsReady new.sets key) e f (λ d away. ready_away old.sets new.sets key e d (same_but old new key e f settles) away) es i at differ all is)

pub still_ready : (old new : Zone) (key : DomainName) (es : List SetDraft) (i : ℕ) (e f : SetDraft) → TypesDiffer es → slice_get es i ≡ Some e → Settles old key e new f
    → AllByRecursion (IsReady old.sets key) es → IsReady new.sets key f → AllByRecursion (IsReady new.sets key) (set es i f)
still_ready old new key es i e f differ at settles all is =
    moved (IsReady old.sets key) (IsReady new.sets key) e f (λ d away. ready_away old.sets new.sets key e d (same_but old new key e f settles) away) es i at differ all is

pub settles_nothing : (zone : Zone) (key : DomainName) (es : List SetDraft) → CanSettleOwner zone.sets key es → SettlesOwner zone key es zone es
settles_nothing zone key es can = record { others = λ name t apart. refl; sets = λ t. refl; can = can; rest = refl }

pub settles_both : (a b d : Zone) (key : DomainName) (es fs gs : List SetDraft) → SettlesOwner a key es b fs → SettlesOwner b key fs d gs → SettlesOwner a key es d gs
settles_both a b d key es fs gs first second = record {
  others = λ name t apart. second.others name t apart ∙ first.others name t apart;
  sets = λ t. second.sets t ∙ first.sets t;
  can = second.can;
  rest = second.rest ∙ ap (λ (z : Zone). record z { sets = d.sets }) first.rest;
}

-- ---- the sets of all owners
can_alike : (old new : List RRset) (key : DomainName) (es : List SetDraft) → ((t : RecordType) → rrset_at new key t ≡ rrset_at old key t) → CanSettleOwner old key es → CanSettleOwner new key es
can_alike old new key es same can = record {
  each = each es can.each;
  differ = can.differ;
  all = λ t none. same t ∙ can.all t none;
  lower = can.lower;
}
  where
    one : (d : SetDraft) → CanSettle old key d → CanSettle new key d
    one d is = record {
      is = subst (λ (o : Option RRset). IsOverStored o d.records) (sym (same d.record_type)) is.is;
      set = subst (λ (o : Option RRset). IsSetOf key (set_in o d)) (sym (same d.record_type)) is.set;
    }

    each : (ds : List SetDraft) → AllByRecursion (CanSettle old key) ds → AllByRecursion (CanSettle new key) ds
    each [] all = tt
    each (d ∷ ds) all = (one d all.0, each ds all.1)

ready_alike : (old new : List RRset) (key : DomainName) (es : List SetDraft) → ((t : RecordType) → rrset_at new key t ≡ rrset_at old key t) → AllByRecursion (IsReady old key) es
    → AllByRecursion (IsReady new key) es
ready_alike old new key [] same all = tt
ready_alike old new key (d ∷ es) same all = (λ records is. by records (all.0 records is), ready_alike old new key es same all.1)
  where
    by : (records : RecordsDraft) → (records.len ≡ 0) ⊎ IsSome (rrset_at old key d.record_type) → (records.len ≡ 0) ⊎ IsSome (rrset_at new key d.record_type)
    by records (inl none) = inl none
    by records (inr some) = inr (subst IsSome (sym (same d.record_type)) some)

pub apart_flipped : (a b : DomainName) → name_eq a b ≡ false → name_eq b a ≡ false
apart_flipped a b apart = name_eq_equiv.symm b a ∙ apart

module _ (old new : Zone) (key : DomainName) (es fs : List SetDraft) (settles : SettlesOwner old key es new fs) where
  at_other : (name : DomainName) → name_eq key name ≡ false → (t : RecordType) → rrset_at new.sets name t ≡ rrset_at old.sets name t
  at_other name apart t = settles.others name t (apart_flipped key name apart)

  value_away : (ps : Drafted) (name : DomainName) (t : RecordType) → AllByRecursion (λ other. name_eq key other.0 ≡ false) ps → name_eq name key ≡ false
      → value_at new.sets ps name t ≡ value_at old.sets ps name t
  value_away [] name t apart away = settles.others name t away
  value_away (p ∷ ps) name t apart away =
      ap (λ (o : Option RRset). cond (name_eq name p.0) o (value_at new.sets ps name t)) (drafted_alike (rrset_at new.sets p.0) (rrset_at old.sets p.0) p.1.sets.items t (at_other p.0 apart.0))
      ∙ ap (cond (name_eq name p.0) (drafted_in (rrset_at old.sets p.0) p.1.sets.items t)) (value_away ps name t apart.1 away)

  can_later : (ps : Drafted) → AllByRecursion (λ other. name_eq key other.0 ≡ false) ps → AllByRecursion (λ owner. CanSettleOwner old.sets owner.0 owner.1.sets.items) ps
      → AllByRecursion (λ owner. CanSettleOwner new.sets owner.0 owner.1.sets.items) ps
  can_later [] apart all = tt
  can_later (p ∷ ps) apart all = (can_alike old.sets new.sets p.0 p.1.sets.items (at_other p.0 apart.0) all.0, can_later ps apart.1 all.1)

  pub ready_later : (ps : Drafted) → AllByRecursion (λ other. name_eq key other.0 ≡ false) ps → AreReady old.sets ps → AreReady new.sets ps
  ready_later [] apart all = tt
  ready_later (p ∷ ps) apart all = (ready_alike old.sets new.sets p.0 p.1.sets.items (at_other p.0 apart.0) all.0, ready_later ps apart.1 all.1)

  -- The owner among all.
  module _ (owner left : OwnerDraft) (is : owner.sets.items ≡ es) (left_is : left.sets.items ≡ fs) where
    value_owner : (xs ys : Drafted) (name : DomainName) (t : RecordType) → KeysDiffer (xs ++ (key, owner) ∷ ys)
        → value_at new.sets (xs ++ (key, left) ∷ ys) name t ≡ value_at old.sets (xs ++ (key, owner) ∷ ys) name t
    value_owner [] ys name t differ = by (name_eq name key) refl
      where
        by : (b : Bool) → name_eq name key ≡ b → cond b (drafted_in (rrset_at new.sets key) left.sets.items t) (value_at new.sets ys name t)
            ≡ cond b (drafted_in (rrset_at old.sets key) owner.sets.items t) (value_at old.sets ys name t)
        by true e =
            ap (λ (ds : List SetDraft). drafted_in (rrset_at new.sets key) ds t) left_is ∙ settles.sets t
            ∙ sym (ap (λ (ds : List SetDraft). drafted_in (rrset_at old.sets key) ds t) is)
        by false away = value_away ys name t differ.0 away
    value_owner (p ∷ xs) ys name t differ =
        ap (λ (o : Option RRset). cond (name_eq name p.0) o (value_at new.sets (xs ++ (key, left) ∷ ys) name t))
        (drafted_alike (rrset_at new.sets p.0) (rrset_at old.sets p.0) p.1.sets.items t (at_other p.0 (apart_flipped p.0 key (among xs differ.0))))
        ∙ ap (cond (name_eq name p.0) (drafted_in (rrset_at old.sets p.0) p.1.sets.items t)) (value_owner xs ys name t differ.1)
      where
        among : (zs : Drafted) → AllByRecursion (λ other. name_eq p.0 other.0 ≡ false) (zs ++ (key, owner) ∷ ys) → name_eq p.0 key ≡ false
        among [] all = all.0
        among (z ∷ zs) all = among zs all.1

    keys_owner : (xs ys : Drafted) → KeysDiffer (xs ++ (key, owner) ∷ ys) → KeysDiffer (xs ++ (key, left) ∷ ys)
    keys_owner [] ys differ = differ
    keys_owner (p ∷ xs) ys differ = (apart xs differ.0, keys_owner xs ys differ.1)
      where
        apart : (zs : Drafted) → AllByRecursion (λ other. name_eq p.0 other.0 ≡ false) (zs ++ (key, owner) ∷ ys) → AllByRecursion (λ other. name_eq p.0 other.0 ≡ false) (zs ++ (key, left) ∷ ys)
        apart [] all = all
        apart (z ∷ zs) all = (all.0, apart zs all.1)

    can_owner : (xs ys : Drafted) → KeysDiffer (xs ++ (key, owner) ∷ ys) → AllByRecursion (λ other. CanSettleOwner old.sets other.0 other.1.sets.items) (xs ++ (key, owner) ∷ ys)
        → AllByRecursion (λ other. CanSettleOwner new.sets other.0 other.1.sets.items) (xs ++ (key, left) ∷ ys)
    can_owner [] ys differ all = (subst (CanSettleOwner new.sets key) (sym left_is) settles.can, can_later ys differ.0 all.1)
    can_owner (p ∷ xs) ys differ all =
        (can_alike old.sets new.sets p.0 p.1.sets.items (at_other p.0 (apart_flipped p.0 key (among xs differ.0))) all.0, can_owner xs ys differ.1 all.1)
      where
        among : (zs : Drafted) → AllByRecursion (λ other. name_eq p.0 other.0 ≡ false) (zs ++ (key, owner) ∷ ys) → name_eq p.0 key ≡ false
        among [] all = all.0
        among (z ∷ zs) all = among zs all.1

    pub settles_owner : (xs ys : Drafted) → CanSettleAll old.sets (xs ++ (key, owner) ∷ ys) → SettlesAll old (xs ++ (key, owner) ∷ ys) new (xs ++ (key, left) ∷ ys)
    settles_owner xs ys can = record {
      values = λ name t. value_owner xs ys name t can.differ;
      can = record { each = can_owner xs ys can.differ can.each; differ = keys_owner xs ys can.differ };
      rest = settles.rest;
    }

    pub ready_before : (xs ys : Drafted) → KeysDiffer (xs ++ (key, owner) ∷ ys) → AreReady old.sets xs → AreReady new.sets xs
    ready_before xs ys differ all = ready_later xs (before xs differ) all
      where
        last_of : (p : DomainName × OwnerDraft) (zs : Drafted) → AllByRecursion (λ other. name_eq p.0 other.0 ≡ false) (zs ++ (key, owner) ∷ ys) → name_eq p.0 key ≡ false
        last_of p [] all = all.0
        last_of p (z ∷ zs) all = last_of p zs all.1

        before : (zs : Drafted) → KeysDiffer (zs ++ (key, owner) ∷ ys) → AllByRecursion (λ other. name_eq key other.0 ≡ false) zs
        before [] d = tt
        before (z ∷ zs) d = (apart_flipped z.0 key (last_of z zs d.0), before zs d.1)

pub settles_all : (zone : Zone) (ps : Drafted) → CanSettleAll zone.sets ps → SettlesAll zone ps zone ps
settles_all zone ps can = record { values = λ name t. refl; can = can; rest = refl }

pub settles_twice : (a b d : Zone) (ps qs rs : Drafted) → SettlesAll a ps b qs → SettlesAll b qs d rs → SettlesAll a ps d rs
settles_twice a b d ps qs rs first second = record {
  values = λ name t. second.values name t ∙ first.values name t;
  can = second.can;
  rest = second.rest ∙ ap (λ (z : Zone). record z { sets = d.sets }) first.rest;
}

-- ---- nothing of the last owner's drafts remains
found_done : (es : List SetDraft) (t : RecordType) (d : SetDraft) → AllByRecursion (λ draft. draft.records ≡ None) es → find (is_draft_of t) es ≡ Some d → d.records ≡ None
found_done [] t d done e = let h : ⊥ = cc in absurd h
found_done (x ∷ es) t d done e = by (is_draft_of t x) e (found_done es t d done.1)
  where
    by : (b : Bool) → cond b (Some x) (find (is_draft_of t) es) ≡ Some d → (find (is_draft_of t) es ≡ Some d → d.records ≡ None) → d.records ≡ None
    by true e more = let same : x ≡ d = cc in subst (λ (y : SetDraft). y.records ≡ None) same done.0
    by false e more = more e

drafted_done : (stored : Stored) (t : RecordType) (es : List SetDraft) → IsByNumber stored → AllByRecursion (λ draft. draft.records ≡ None) es → AllDrafted stored es → drafted_in stored es t ≡ stored t
drafted_done stored t es numbered done all = by (find (is_draft_of t) es) refl
  where
    by : (o : Option SetDraft) → find (is_draft_of t) es ≡ o → drafted_in stored es t ≡ stored t
    by None e = drafted_none stored es t e ∙ sym (all t e)
    by (Some d) e =
        drafted_found stored es t d e
        ∙ ap (set_by (stored d.record_type) d.record_type) (found_done es t d done e)
        ∙ numbered d.record_type t (found_passes (is_draft_of t) es d e)

value_done : (sets : List RRset) (xs : Drafted) (key : DomainName) (owner : OwnerDraft) (name : DomainName) (t : RecordType) → CanSettleOwner sets key owner.sets.items
    → AllByRecursion (λ draft. draft.records ≡ None) owner.sets.items → value_at sets (xs ++ (key, owner) ∷ []) name t ≡ value_at sets xs name t
value_done sets [] key owner name t can done = by (name_eq name key) refl
  where
    by : (b : Bool) → name_eq name key ≡ b → cond b (drafted_in (rrset_at sets key) owner.sets.items t) (rrset_at sets name t) ≡ rrset_at sets name t
    by true same = drafted_done (rrset_at sets key) t owner.sets.items (by_number sets key) done can.all ∙ rrset_same sets name key t same
    by false apart = refl
value_done sets (p ∷ xs) key owner name t can done =
    ap (cond (name_eq name p.0) (drafted_in (rrset_at sets p.0) p.1.sets.items t)) (value_done sets xs key owner name t can done)

pub all_before : (P : DomainName × OwnerDraft → Type 0) (xs : Drafted) (p : DomainName × OwnerDraft) → AllByRecursion P (xs ++ p ∷ []) → AllByRecursion P xs × P p
all_before P [] p all = (tt, all.0)
all_before P (x ∷ xs) p all = let more = all_before P xs p all.1 in ((all.0, more.0), more.1)

differ_before : (xs : Drafted) (p : DomainName × OwnerDraft) → KeysDiffer (xs ++ p ∷ []) → KeysDiffer xs
differ_before [] p differ = tt
differ_before (x ∷ xs) p differ = ((all_before (λ other. name_eq x.0 other.0 ≡ false) xs p differ.0).0, differ_before xs p differ.1)

-- All owners but the last one are left.
pub record Remains (old new : Zone) (ps xs : Drafted) : Type 0 where
  pub values : (name : DomainName) (t : RecordType) → value_at new.sets xs name t ≡ value_at old.sets ps name t
  pub can : CanSettleAll new.sets xs
  pub ready : AreReady new.sets xs
  pub rest : new ≡ record old { sets = new.sets }

pub remains : (first old new : Zone) (ps all xs : Drafted) (key : DomainName) (owner left : OwnerDraft) → Remains first old ps all → all ≡ xs ++ (key, owner) ∷ []
    → SettlesOwner old key owner.sets.items new left.sets.items → AllByRecursion (λ draft. draft.records ≡ None) left.sets.items → Remains first new ps xs
remains first old new ps all xs key owner left before popped settles done =
    let can : CanSettleAll old.sets (xs ++ (key, owner) ∷ []) = subst (CanSettleAll old.sets) popped before.can in
    let ready = subst (AreReady old.sets) popped before.ready in
    let one = settles_owner old new key owner.sets.items left.sets.items settles owner left refl refl xs [] can in
    let parts = all_before (λ other. CanSettleOwner new.sets other.0 other.1.sets.items) xs (key, left) one.can.each in
    record {
      values = λ name t. sym (value_done new.sets xs key left name t parts.1 done) ∙ one.values name t ∙ sym (ap (λ (l : Drafted). value_at old.sets l name t) popped) ∙ before.values name t;
      can = record { each = parts.0; differ = differ_before xs (key, left) one.can.differ };
      ready = ready_before old new key owner.sets.items left.sets.items settles owner left refl refl xs [] can.differ
          (all_before (λ other. AllByRecursion (IsReady old.sets other.0) other.1.sets.items) xs (key, owner) ready).0;
      rest = one.rest ∙ ap (λ (z : Zone). record z { sets = new.sets }) before.rest;
    }
