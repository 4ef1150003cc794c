-- What holds while an owner's drafts are gone through.
use Rattle.std.proofs.Common.{◌≡◌, ◌∙◌, ℕ, ◌+◌, ◌<◌, ◌≤◌, refl, ap, sym, subst, arith, drop, length, take}
use Rattle.std.specs.Prelude.{Bool, true, false, ◌&&◌, ◌||◌, List, [], ◌∷◌, ◌++◌, Option, Some, None, get_or, set, slice_get}
use Rattle.std.specs.Iterator.{Yields}
use Rattle.std.specs.List.{AllByRecursion, list_any}
use Rattle.std.specs.Vec.Iter.{into_iter_items, into_iter_len, into_iter_steps}
use Rattle.std.specs.declared.vec.IntoIter.{IntoIter}
use Rattle.std.proofs.lemmas.Iterator.Adapters.{YieldsList-from_vec}
use Rattle.std.proofs.lemmas.Iterator.Consumers.{YieldsList-end}
use Rattle.std.proofs.lemmas.List.{append_assoc, drop-set-lt, drop_more, length-set, map-id, take_all, take_more, take_more_set}
use Rattle.zst_map.specs.dnw_name.DomainName.{DomainName}
use Rattle.zst_map.specs.zst_handler.Zones.{Zone}
use Rattle.zst_map.specs.zst_record.declared.records.Record.{Record}
use Rattle.zst_draft.specs.OwnerDrafts.{DeletesAll, DeletesSet}
use Rattle.zst_draft.specs.SetDrafts.{deletes, is_filled}
use Rattle.zst_draft.specs.Settling.{AreReady, CanSettleOwner, Drafted, IsReady, Settles, SettlesAll, SettlesOwner}
use Rattle.zst_draft.specs.declared.owner.OwnerDraft.{OwnerDraft}
use Rattle.zst_draft.specs.declared.set.SetDraft.{SetDraft}
use Rattle.zst_draft.proofs.DraftedTypes.{each_more}
use Rattle.zst_draft.proofs.Found.{drop_at}
use Rattle.zst_draft.proofs.Settled.{ready_at, ready_before, settles_at, settles_both, settles_nothing, settles_owner, settles_twice, still_ready}

-- ---- records are applied
-- A loop over a vector has yielded all its items at the end.
pub all_yielded : {A Z : Type 0} (s t u : IntoIter A Z) (xs ys : List A) (r : Option A) → into_iter_items s ≡ ys → into_iter_len s ≡ length ys → Yields (into_iter_steps {X = A} {Z = Z}) s xs t
    → r ≡ None → into_iter_steps t r u → xs ≡ ys
all_yielded s t u xs ys r items len yielded none step = sym (map-id xs) ∙ (YieldsList-end (YieldsList-from_vec {s = s} ys items len) xs t yielded r u none step).0

-- ---- sets are deleted
deletes_more : (at_apex : Bool) (r : Record) (olds news : List SetDraft) (e f : SetDraft) → DeletesAll at_apex r olds news → DeletesSet at_apex r e f → DeletesAll at_apex r (olds ++ e ∷ []) (news ++ f ∷ [])
deletes_more at_apex r [] [] e f all one = (one, tt)
deletes_more at_apex r [] (y ∷ news) e f all one = absurd all
deletes_more at_apex r (x ∷ olds) [] e f all one = absurd all
deletes_more at_apex r (x ∷ olds) (y ∷ news) e f all one = (all.0, deletes_more at_apex r olds news e f all.1 one)

abbrev is_changed : Bool → Record → SetDraft → Bool
is_changed at_apex r d = is_filled d && deletes at_apex r d.record_type

or_assoc : (a b c : Bool) → (a || (b || c)) ≡ ((a || b) || c)
or_assoc true b c = refl
or_assoc false b c = refl

or_false : (b : Bool) → (b || false) ≡ b
or_false true = refl
or_false false = refl

any_push : (q : SetDraft → Bool) (es : List SetDraft) (e : SetDraft) → list_any q (es ++ e ∷ []) ≡ (list_any q es || q e)
any_push q [] e = or_false (q e)
any_push q (d ∷ es) e = ap (λ (b : Bool). q d || b) (any_push q es e) ∙ or_assoc (q d) (list_any q es) (q e)

pub record DeletesFirst (at_apex : Bool) (r : Record) (old : List SetDraft) (i : ℕ) (now : List SetDraft) (changed : Bool) : Type 0 where
  pub answer : changed ≡ list_any (is_changed at_apex r) (take i old)
  pub drafts : DeletesAll at_apex r (take i old) (take i now)
  pub rest : drop i now ≡ drop i old
  pub long : length now ≡ length old

pub deletes_none : (at_apex : Bool) (r : Record) (old : List SetDraft) → DeletesFirst at_apex r old 0 old false
deletes_none at_apex r old = record { answer = refl; drafts = tt; rest = refl; long = refl }

same_item : {X : Type 0} (x y : X) (xs ys : List X) → x ∷ xs ≡ y ∷ ys → x ≡ y
same_item x y xs ys e = cc

same_items : {X : Type 0} (x y : X) (xs ys : List X) → x ∷ xs ≡ y ∷ ys → xs ≡ ys
same_items x y xs ys e = cc

pub deletes_next : (at_apex : Bool) (r : Record) (old : List SetDraft) (i : ℕ) (now : List SetDraft) (changed one : Bool) (e f : SetDraft) → i < length now → slice_get now i ≡ Some e
    → DeletesSet at_apex r e f → one ≡ is_changed at_apex r e → DeletesFirst at_apex r old i now changed → DeletesFirst at_apex r old (i + 1) (set now i f) (changed || one)
deletes_next at_apex r old i now changed one e f small at deleted is first =
    let within : i < length old = omega (arith, small, first.long) in
    let both : e ∷ drop (i + 1) now ≡ get_or old i e ∷ drop (i + 1) old = sym (drop_at now i e small at) ∙ first.rest ∙ drop_more old i e within in
    let there : e ≡ get_or old i e = same_item e (get_or old i e) (drop (i + 1) now) (drop (i + 1) old) both in
    let before : take (i + 1) old ≡ take i old ++ e ∷ [] = take_more old i e within ∙ ap (λ (x : SetDraft). take i old ++ x ∷ []) (sym there) in
    let after : take (i + 1) (set now i f) ≡ take i now ++ f ∷ [] = take_more_set now i f small in
    record {
      answer = ap (λ (b : Bool). b || one) first.answer ∙ ap (λ (b : Bool). list_any (is_changed at_apex r) (take i old) || b) is
          ∙ sym (any_push (is_changed at_apex r) (take i old) e) ∙ ap (list_any (is_changed at_apex r)) (sym before);
      drafts = subst (λ (l : List SetDraft). DeletesAll at_apex r l (take (i + 1) (set now i f))) (sym before)
          (subst (DeletesAll at_apex r (take i old ++ e ∷ [])) (sym after) (deletes_more at_apex r (take i old) (take i now) e f first.drafts deleted));
      rest = drop-set-lt (i + 1) now i f (omega arith) ∙ same_items e (get_or old i e) (drop (i + 1) now) (drop (i + 1) old) both;
      long = length-set now i f ∙ first.long;
    }

pub record DeletesEach (at_apex : Bool) (r : Record) (old now : List SetDraft) (changed : Bool) : Type 0 where
  pub answer : changed ≡ list_any (is_changed at_apex r) old
  pub drafts : DeletesAll at_apex r old now

pub deletes_each : (at_apex : Bool) (r : Record) (old : List SetDraft) (i : ℕ) (now : List SetDraft) (changed : Bool) → length now ≤ i → DeletesFirst at_apex r old i now changed → DeletesEach at_apex r old now changed
deletes_each at_apex r old i now changed end first =
    let all_old : take i old ≡ old = take_all i old (omega (arith, end, first.long)) in
    let all_now : take i now ≡ now = take_all i now end in
    record {
      answer = first.answer ∙ ap (list_any (is_changed at_apex r)) all_old;
      drafts = subst (λ (l : List SetDraft). DeletesAll at_apex r l now) all_old (subst (DeletesAll at_apex r (take i old)) all_now first.drafts);
    }

-- ---- sets are put
pub record PutsFirst (old : Zone) (key : DomainName) (es : List SetDraft) (i : ℕ) (new : Zone) (fs : List SetDraft) : Type 0 where
  pub settles : SettlesOwner old key es new fs
  pub ready : AllByRecursion (IsReady new.sets key) (take i fs)

pub puts_none : (zone : Zone) (key : DomainName) (es : List SetDraft) → CanSettleOwner zone.sets key es → PutsFirst zone key es 0 zone es
puts_none zone key es can = record { settles = settles_nothing zone key es can; ready = tt }

pub puts_next : (old now new : Zone) (key : DomainName) (es : List SetDraft) (i : ℕ) (fs : List SetDraft) (e f : SetDraft) → slice_get fs i ≡ Some e → Settles now key e new f → IsReady new.sets key f
    → PutsFirst old key es i now fs → PutsFirst old key es (i + 1) new (set fs i f)
puts_next old now new key es i fs e f at settles is first = record {
  settles = settles_both old now new key es fs (set fs i f) first.settles (settles_at now new key fs i e f first.settles.can at settles);
  ready = ready_at now new key fs i e f first.settles.can.differ at settles first.ready is;
}

pub puts_all : (old new : Zone) (key : DomainName) (es : List SetDraft) (i : ℕ) (fs : List SetDraft) → length fs ≤ i → PutsFirst old key es i new fs → AllByRecursion (IsReady new.sets key) fs
puts_all old new key es i fs end first = subst (AllByRecursion (IsReady new.sets key)) (take_all i fs end) first.ready

-- ---- sets are put in place of others
pub record SettlesFirst (old : Zone) (key : DomainName) (es : List SetDraft) (i : ℕ) (new : Zone) (fs : List SetDraft) : Type 0 where
  pub settles : SettlesOwner old key es new fs
  pub ready : AllByRecursion (IsReady new.sets key) fs
  pub done : AllByRecursion (λ draft. draft.records ≡ None) (take i fs)

pub settles_start : (zone : Zone) (key : DomainName) (es : List SetDraft) → CanSettleOwner zone.sets key es → AllByRecursion (IsReady zone.sets key) es → SettlesFirst zone key es 0 zone es
settles_start zone key es can ready = record { settles = settles_nothing zone key es can; ready = ready; done = tt }

pub settles_next : (old now new : Zone) (key : DomainName) (es : List SetDraft) (i : ℕ) (fs : List SetDraft) (e f : SetDraft) → i < length fs → slice_get fs i ≡ Some e → Settles now key e new f → IsReady new.sets key f
    → f.records ≡ None → SettlesFirst old key es i now fs → SettlesFirst old key es (i + 1) new (set fs i f)
settles_next old now new key es i fs e f small at settles is none first = record {
  settles = settles_both old now new key es fs (set fs i f) first.settles (settles_at now new key fs i e f first.settles.can at settles);
  ready = still_ready now new key fs i e f first.settles.can.differ at settles first.ready is;
  done = subst (AllByRecursion (λ draft. draft.records ≡ None)) (sym (take_more_set fs i f small)) (each_more (λ draft. draft.records ≡ None) (take i fs) f first.done none);
}

pub settles_end : (old new : Zone) (key : DomainName) (es : List SetDraft) (i : ℕ) (fs : List SetDraft) → length fs ≤ i → SettlesFirst old key es i new fs → AllByRecursion (λ draft. draft.records ≡ None) fs
settles_end old new key es i fs end first = subst (AllByRecursion (λ draft. draft.records ≡ None)) (take_all i fs end) first.done

-- ---- the owners' sets are put
pub record PutsOwners (old : Zone) (ps : Drafted) (new : Zone) (done left : Drafted) : Type 0 where
  pub settles : SettlesAll old ps new (done ++ left)
  pub ready : AreReady new.sets done

pub puts_owner : (old now new : Zone) (ps done left rest : Drafted) (key : DomainName) (owner after : OwnerDraft) → left ≡ (key, owner) ∷ rest
    → SettlesOwner now key owner.sets.items new after.sets.items → AllByRecursion (IsReady new.sets key) after.sets.items
    → PutsOwners old ps now done left → PutsOwners old ps new (done ++ (key, after) ∷ []) rest
puts_owner old now new ps done left rest key owner after popped settles ready before =
    let all : SettlesAll old ps now (done ++ (key, owner) ∷ rest) = subst (λ (l : Drafted). SettlesAll old ps now (done ++ l)) popped before.settles in
    let one = settles_owner now new key owner.sets.items after.sets.items settles owner after refl refl done rest all.can in
    record {
      settles = subst (SettlesAll old ps new) (sym (append_assoc done ((key, after) ∷ []) rest))
          (settles_twice old now new ps (done ++ (key, owner) ∷ rest) (done ++ (key, after) ∷ rest) all one);
      ready = each_more (λ other. AllByRecursion (IsReady new.sets other.0) other.1.sets.items) done (key, after)
          (ready_before now new key owner.sets.items after.sets.items settles owner after refl refl done rest all.can.differ before.ready) ready;
    }

pub first_can : (old now : Zone) (ps done left rest : Drafted) (key : DomainName) (owner : OwnerDraft) → left ≡ (key, owner) ∷ rest → PutsOwners old ps now done left → CanSettleOwner now.sets key owner.sets.items
first_can old now ps done left rest key owner popped before =
    among done (subst (λ (l : Drafted). AllByRecursion (λ other. CanSettleOwner now.sets other.0 other.1.sets.items) (done ++ l)) popped before.settles.can.each)
  where
    among : (xs : Drafted) → AllByRecursion (λ other. CanSettleOwner now.sets other.0 other.1.sets.items) (xs ++ (key, owner) ∷ rest) → CanSettleOwner now.sets key owner.sets.items
    among [] all = all.0
    among (x ∷ xs) all = among xs all.1
