-- What the steps of a draft make of its records, and that it stays one.
use Rattle.std.proofs.Common.{◌≡◌, ◌∙◌, ℕ, ◌+◌, ◌<◌, ◌≤◌, ◌++◌, suc, zero, refl, sym, ap, subst, arith, length, take}
use Rattle.std.specs.Prelude.{List, [], ◌∷◌, Option, Some, None, Result, Ok, Err, IfOk, OnOk, get_or, set}
use Rattle.std.specs.List.{remove}
use Rattle.std.proofs.lemmas.List.{length-set, length_push, take_all, take_more}
use Rattle.std.proofs.lemmas.List.Edits.{length-remove}
use Rattle.zst_map.specs.zst_record.Drafts.{Rise, drafted, picked}
use Rattle.zst_map.specs.zst_record.declared.draft.Draft.{Draft}
use Rattle.zst_map.specs.zst_record.declared.records.Record.{Record}
use Rattle.zst_draft.specs.SetDrafts.{IsRecordsDraft, records_in}
use Rattle.zst_draft.specs.declared.records.RecordsDraft.{RecordsDraft}

-- ---- the list
pub length_drafted : {X : Type 0} (stored : List X) (ps : List (Option ℕ)) (xs : List X) → length ps ≡ length xs → length (drafted stored ps xs) ≡ length xs
length_drafted stored [] [] long = refl
length_drafted stored [] (x ∷ xs) long = absurd (omega (arith, long))
length_drafted stored (p ∷ ps) [] long = absurd (omega (arith, long))
length_drafted stored (p ∷ ps) (x ∷ xs) long = let more = length_drafted stored ps xs (omega (arith, long)) in omega (arith, more)

pub drafted_push : {X : Type 0} (stored : List X) (ps : List (Option ℕ)) (xs : List X) (x : X) → length ps ≡ length xs → drafted stored (ps ++ None ∷ []) (xs ++ x ∷ []) ≡ drafted stored ps xs ++ x ∷ []
drafted_push stored [] [] x long = refl
drafted_push stored [] (y ∷ xs) x long = absurd (omega (arith, long))
drafted_push stored (p ∷ ps) [] x long = absurd (omega (arith, long))
drafted_push stored (p ∷ ps) (y ∷ xs) x long = ap (λ (l : List _). picked stored p y ∷ l) (drafted_push stored ps xs x (omega (arith, long)))

pub drafted_stored : {X : Type 0} (stored : List X) (ps : List (Option ℕ)) (xs : List X) (i : ℕ) (x : X) → length ps ≡ length xs
    → drafted stored (ps ++ Some i ∷ []) (xs ++ x ∷ []) ≡ drafted stored ps xs ++ get_or stored i x ∷ []
drafted_stored stored [] [] i x long = refl
drafted_stored stored [] (y ∷ xs) i x long = absurd (omega (arith, long))
drafted_stored stored (p ∷ ps) [] i x long = absurd (omega (arith, long))
drafted_stored stored (p ∷ ps) (y ∷ xs) i x long = ap (λ (l : List _). picked stored p y ∷ l) (drafted_stored stored ps xs i x (omega (arith, long)))

pub drafted_put : {X : Type 0} (stored : List X) (ps : List (Option ℕ)) (xs : List X) (at : ℕ) (x : X) → length ps ≡ length xs → drafted stored (set ps at None) (set xs at x) ≡ set (drafted stored ps xs) at x
drafted_put stored [] [] at x long = refl
drafted_put stored [] (y ∷ xs) at x long = absurd (omega (arith, long))
drafted_put stored (p ∷ ps) [] at x long = absurd (omega (arith, long))
drafted_put stored (p ∷ ps) (y ∷ xs) zero x long = refl
drafted_put stored (p ∷ ps) (y ∷ xs) (suc at) x long = ap (λ (l : List _). picked stored p y ∷ l) (drafted_put stored ps xs at x (omega (arith, long)))

pub drafted_removed : {X : Type 0} (stored : List X) (ps : List (Option ℕ)) (xs : List X) (at : ℕ) → length ps ≡ length xs → drafted stored (remove ps at) (remove xs at) ≡ remove (drafted stored ps xs) at
drafted_removed stored [] [] zero long = refl
drafted_removed stored [] [] (suc at) long = refl
drafted_removed stored [] (y ∷ xs) at long = absurd (omega (arith, long))
drafted_removed stored (p ∷ ps) [] at long = absurd (omega (arith, long))
drafted_removed stored (p ∷ ps) (y ∷ xs) zero long = refl
drafted_removed stored (p ∷ ps) (y ∷ xs) (suc at) long = ap (λ (l : List _). picked stored p y ∷ l) (drafted_removed stored ps xs at (omega (arith, long)))

-- ---- the indexes of stored items rise
rise_from : (low high count : ℕ) (ps : List (Option ℕ)) → low ≤ high → Rise high count ps → Rise low count ps
rise_from low high count [] le rise = tt
rise_from low high count (None ∷ ps) le rise = rise_from low high count ps le rise
rise_from low high count (Some p ∷ ps) le (from, below, more) = (omega (arith, le, from), below, more)

rise_push : (low count : ℕ) (ps : List (Option ℕ)) → Rise low count ps → Rise low count (ps ++ None ∷ [])
rise_push low count [] rise = tt
rise_push low count (None ∷ ps) rise = rise_push low count ps rise
rise_push low count (Some p ∷ ps) (from, below, more) = (from, below, rise_push (p + 1) count ps more)

pub rise_stored : (low i : ℕ) (ps : List (Option ℕ)) → low ≤ i → Rise low i ps → Rise low (i + 1) (ps ++ Some i ∷ [])
rise_stored low i [] le rise = (le, omega arith, tt)
rise_stored low i (None ∷ ps) le rise = rise_stored low i ps le rise
rise_stored low i (Some p ∷ ps) le (from, below, more) = (from, omega (arith, below), rise_stored (p + 1) i ps (omega (arith, below)) more)

rise_put : (low count at : ℕ) (ps : List (Option ℕ)) → Rise low count ps → Rise low count (set ps at None)
rise_put low count at [] rise = tt
rise_put low count zero (None ∷ ps) rise = rise
rise_put low count zero (Some p ∷ ps) (from, below, more) = rise_from low (p + 1) count ps (omega (arith, from)) more
rise_put low count (suc at) (None ∷ ps) rise = rise_put low count at ps rise
rise_put low count (suc at) (Some p ∷ ps) (from, below, more) = (from, below, rise_put (p + 1) count at ps more)

rise_removed : (low count at : ℕ) (ps : List (Option ℕ)) → Rise low count ps → Rise low count (remove ps at)
rise_removed low count zero [] rise = tt
rise_removed low count (suc at) [] rise = tt
rise_removed low count zero (None ∷ ps) rise = rise
rise_removed low count zero (Some p ∷ ps) (from, below, more) = rise_from low (p + 1) count ps (omega (arith, from)) more
rise_removed low count (suc at) (None ∷ ps) rise = rise_removed low count at ps rise
rise_removed low count (suc at) (Some p ∷ ps) (from, below, more) = (from, below, rise_removed (p + 1) count at ps more)

-- ---- the draft stays one
pub is_pushed : (count n m : ℕ) (old new : Draft Record) (next : Record) → new.places.items ≡ old.places.items ++ None ∷ [] → new.items.items ≡ old.items.items ++ next ∷ [] → m ≡ n + 1
    → IsRecordsDraft count (record { list = old; len = n }) → IsRecordsDraft count (record { list = new; len = m })
is_pushed count n m old new next places items more is =
    let longer = ap length items ∙ length_push old.items.items next in
    record {
      list = record {
        long = let p = ap length places ∙ length_push old.places.items None in omega (arith, p, longer, is.list.long);
        rise = subst (Rise 0 count) (sym places) (rise_push 0 count old.places.items is.list.rise);
      };
      len = omega (arith, longer, more, is.len);
    }

pub records_pushed : (stored : List Record) (n m : ℕ) (old new : Draft Record) (next : Record) → new.places.items ≡ old.places.items ++ None ∷ [] → new.items.items ≡ old.items.items ++ next ∷ []
    → IsRecordsDraft (length stored) (record { list = old; len = n })
    → records_in stored (Some (record { list = new; len = m })) ≡ records_in stored (Some (record { list = old; len = n })) ++ next ∷ []
records_pushed stored n m old new next places items is =
    ap (λ (p : List (Option ℕ)). drafted stored p new.items.items) places
    ∙ ap (λ (x : List Record). drafted stored (old.places.items ++ None ∷ []) x) items
    ∙ drafted_push stored old.places.items old.items.items next is.list.long

pub is_put : (count n at : ℕ) (old new : Draft Record) (next : Record) → new.places.items ≡ set old.places.items at None → new.items.items ≡ set old.items.items at next
    → IsRecordsDraft count (record { list = old; len = n }) → IsRecordsDraft count (record { list = new; len = n })
is_put count n at old new next places items is =
    let x = ap length items ∙ length-set old.items.items at next in
    record {
      list = record {
        long = let p = ap length places ∙ length-set old.places.items at None in omega (arith, p, x, is.list.long);
        rise = subst (Rise 0 count) (sym places) (rise_put 0 count at old.places.items is.list.rise);
      };
      len = is.len ∙ sym x;
    }

pub records_put : (stored : List Record) (n at : ℕ) (old new : Draft Record) (next : Record) → new.places.items ≡ set old.places.items at None → new.items.items ≡ set old.items.items at next
    → IsRecordsDraft (length stored) (record { list = old; len = n })
    → records_in stored (Some (record { list = new; len = n })) ≡ set (records_in stored (Some (record { list = old; len = n }))) at next
records_put stored n at old new next places items is =
    ap (λ (p : List (Option ℕ)). drafted stored p new.items.items) places
    ∙ ap (λ (x : List Record). drafted stored (set old.places.items at None) x) items
    ∙ drafted_put stored old.places.items old.items.items at next is.list.long

pub is_removed : (count n m at : ℕ) (old new : Draft Record) → new.places.items ≡ remove old.places.items at → new.items.items ≡ remove old.items.items at → m + 1 ≡ n → at < n
    → IsRecordsDraft count (record { list = old; len = n }) → IsRecordsDraft count (record { list = new; len = m })
is_removed count n m at old new places items less small is =
    let x = ap length items in
    let y = length-remove old.items.items at (omega (arith, small, is.len)) in
    record {
      list = record {
        long = let p = ap length places in let q = length-remove old.places.items at (omega (arith, small, is.len, is.list.long)) in omega (arith, p, q, x, y, is.list.long);
        rise = subst (Rise 0 count) (sym places) (rise_removed 0 count at old.places.items is.list.rise);
      };
      len = omega (arith, x, y, less, is.len);
    }

pub records_removed : (stored : List Record) (n m at : ℕ) (old new : Draft Record) → new.places.items ≡ remove old.places.items at → new.items.items ≡ remove old.items.items at
    → IsRecordsDraft (length stored) (record { list = old; len = n })
    → records_in stored (Some (record { list = new; len = m })) ≡ remove (records_in stored (Some (record { list = old; len = n }))) at
records_removed stored n m at old new places items is =
    ap (λ (p : List (Option ℕ)). drafted stored p new.items.items) places
    ∙ ap (λ (x : List Record). drafted stored (remove old.places.items at) x) items
    ∙ drafted_removed stored old.places.items old.items.items at is.list.long

pub length_records : (stored : List Record) (draft : RecordsDraft) → IsRecordsDraft (length stored) draft → length (records_in stored (Some draft)) ≡ draft.len
length_records stored draft is = length_drafted stored draft.list.places.items draft.list.items.items is.list.long ∙ sym is.len

-- ---- a draft of the first stored records
pub record IsOverFirst (stored : List Record) (i : ℕ) (draft : RecordsDraft) : Type 0 where
  pub long : length draft.list.places.items ≡ length draft.list.items.items
  pub len : draft.len ≡ length draft.list.items.items
  pub rise : Rise 0 i draft.list.places.items
  pub are : records_in stored (Some draft) ≡ take i stored

pub over_none : (stored : List Record) (draft : RecordsDraft) → ((count : ℕ) → IsRecordsDraft count draft) → ((others : List Record) → records_in others (Some draft) ≡ []) → IsOverFirst stored 0 draft
over_none stored draft is none = record { long = (is 0).list.long; len = (is 0).len; rise = (is 0).list.rise; are = none stored }

pub over_more : (stored : List Record) (i : ℕ) (old new : RecordsDraft) (x : Record) → i < length stored → new.list.places.items ≡ old.list.places.items ++ Some i ∷ []
    → new.list.items.items ≡ old.list.items.items ++ x ∷ [] → new.len ≡ length new.list.items.items → IsOverFirst stored i old → IsOverFirst stored (i + 1) new
over_more stored i old new x small places items len is = record {
  long =
      let p = ap length places ∙ length_push old.list.places.items (Some i) in
      let y = ap length items ∙ length_push old.list.items.items x in
      omega (arith, p, y, is.long);
  len = len;
  rise = subst (Rise 0 (i + 1)) (sym places) (rise_stored 0 i old.list.places.items (omega arith) is.rise);
  are =
      ap (λ (p : List (Option ℕ)). drafted stored p new.list.items.items) places
      ∙ ap (λ (y : List Record). drafted stored (old.list.places.items ++ Some i ∷ []) y) items
      ∙ drafted_stored stored old.list.places.items old.list.items.items i x is.long
      ∙ ap (λ (l : List Record). l ++ get_or stored i x ∷ []) is.are
      ∙ sym (take_more stored i x small);
}

pub record IsOverAll (stored : List Record) (draft : RecordsDraft) : Type 0 where
  pub is : IsRecordsDraft (length stored) draft
  pub are : records_in stored (Some draft) ≡ stored

pub over_all : (stored : List Record) (i : ℕ) (draft : RecordsDraft) → i ≡ length stored → IsOverFirst stored i draft → IsOverAll stored draft
over_all stored i draft all is = record {
  is = record { list = record { long = is.long; rise = subst (λ (n : ℕ). Rise 0 n draft.list.places.items) all is.rise }; len = is.len };
  are = is.are ∙ take_all i stored (omega (arith, all));
}

-- ---- answers
pub on_ok : {T E A B P : Type 0} (r : Result T E) → (A → B → P) → OnOk r A → OnOk r B → OnOk r P
on_ok (Ok x) f a b = f a b
on_ok (Err e) f a b = tt

pub all_three : {T E A B D : Type 0} (r : Result T E) (P Q : T → Type 0) → ((x : T) → P x → A → B → D → Q x) → IfOk r P → OnOk r A → OnOk r B → OnOk r D → IfOk r Q
all_three (Ok x) P Q f p a b d = f x p a b d
all_three (Err e) P Q f p a b d = tt

pub if_ok : {T E : Type 0} (r : Result T E) (P Q : T → Type 0) → ((x : T) → P x → Q x) → IfOk r P → IfOk r Q
if_ok (Ok x) P Q f p = f x p
if_ok (Err e) P Q f p = tt

pub ok_on : {T E Q : Type 0} (r : Result T E) (P : T → Type 0) → ((x : T) → P x → Q) → IfOk r P → OnOk r Q
ok_on (Ok x) P f p = f x p
ok_on (Err e) P f p = tt

pub on_ok_one : {T E A P : Type 0} (r : Result T E) → (A → P) → OnOk r A → OnOk r P
on_ok_one (Ok x) f a = f a
on_ok_one (Err e) f a = tt
