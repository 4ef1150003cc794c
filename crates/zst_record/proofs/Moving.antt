-- Stored items that are moved one by one to where a draft has them.
use Rattle.std.proofs.Common.{◌≡◌, ◌≢◌, ◌∙◌, ℕ, ◌+◌, ◌<◌, ◌≤◌, ◌++◌, refl, sym, ap, subst, arith, drop, take, length}
use Rattle.std.specs.Prelude.{List, [], ◌∷◌, Option, Some, None, get_or, set}
use Rattle.std.proofs.lemmas.Option.{get_or_from_slice_get}
use Rattle.std.proofs.lemmas.List.{append_assoc, length-drop, length-set, drop-set-lt, drop_more, get_or-set_other, take_more_set, take_more, take-append-drop}
use Rattle.std.proofs.Math.ListN.{drop_of_length-le}
use Rattle.zst_record.specs.Drafts.{Exchanges, Rise, drafted}

pub rise_from : (low high count : ℕ) (ps : List (Option ℕ)) → low ≤ high → Rise high count ps → Rise low count ps
rise_from low high count [] le rise = tt
rise_from low high count (None ∷ ps) le rise = rise_from low high count ps le rise
rise_from low high count (Some p ∷ ps) le (from, below, more) = (omega (arith, le, from), below, more)

apart : (i p : ℕ) → i + 1 ≤ p → p ≢ i
apart i p le e = omega (arith, le, e)

-- An item exchanged at an index isn't taken after it.
pub drafted_set : {X : Type 0} (stored : List X) (i count : ℕ) (y : X) (ps : List (Option ℕ)) (xs : List X) → Rise (i + 1) count ps
    → drafted (set stored i y) ps xs ≡ drafted stored ps xs
drafted_set stored i count y [] xs rise = refl
drafted_set stored i count y (p ∷ ps) [] rise = refl
drafted_set stored i count y (None ∷ ps) (x ∷ xs) rise = ap (λ (l : List _). x ∷ l) (drafted_set stored i count y ps xs rise)
drafted_set stored i count y (Some p ∷ ps) (x ∷ xs) (from, below, more) =
    ap (λ (l : List _). get_or (set stored i y) p x ∷ l) (drafted_set stored i count y ps xs (rise_from (i + 1) (p + 1) count ps (omega (arith, from)) more))
    ∙ ap (λ (z : _). z ∷ drafted stored ps xs) (get_or-set_other stored i p y x (apart i p from))

-- The first k items are final, and the rest of the draft completes the list.
pub record Moved {X : Type 0} (places : List (Option ℕ)) (items stored : List X) (k : ℕ) (now left : List X) : Type 0 where
  pub long : length now ≡ length places
  pub kept : length left ≡ length stored
  pub low : ℕ
  pub rise : Rise low (length stored) (drop k places)
  pub whole : take k now ++ drafted left (drop k places) (drop k now) ≡ drafted stored places items

-- One more: a new item stays where it is.
pub stays : {X : Type 0} (places : List (Option ℕ)) (items stored : List X) (k : ℕ) (now left : List X) → k < length places → drop k places ≡ None ∷ drop (k + 1) places
    → Moved places items stored k now left → Moved places items stored (k + 1) now left
stays places items stored k now left small is moved = by (drop k now) refl
  where
    by : (ys : List _) → drop k now ≡ ys → Moved places items stored (k + 1) now left
    by [] e = absurd (omega (arith, small, moved.long, sym (length-drop k now) ∙ ap length e))
    by (x ∷ xs) e =
        let more = drop_more now k x (omega (arith, small, moved.long)) in
        let same : take (k + 1) now ++ drafted left (drop (k + 1) places) (drop (k + 1) now) ≡ take k now ++ drafted left (drop k places) (drop k now)
        = ap (λ (l : List _). l ++ drafted left (drop (k + 1) places) (drop (k + 1) now)) (take_more now k x (omega (arith, small, moved.long)))
        ∙ append_assoc (take k now) (get_or now k x ∷ []) (drafted left (drop (k + 1) places) (drop (k + 1) now))
        ∙ sym (ap (λ (l : List _). take k now ++ drafted left (drop k places) l) more ∙ ap (λ (p : List (Option ℕ)). take k now ++ drafted left p (get_or now k x ∷ drop (k + 1) now)) is) in
        record {
          long = moved.long;
          kept = moved.kept;
          low = moved.low;
          rise = subst (λ (p : List (Option ℕ)). Rise moved.low (length stored) p) is moved.rise;
          whole = same ∙ moved.whole;
        }

-- One more: a stored item is moved in, and what stood in for it takes its place.
pub moves_in : {X : Type 0} (places : List (Option ℕ)) (items stored : List X) (k place : ℕ) (now left after behind : List X) → k < length places
    → drop k places ≡ Some place ∷ drop (k + 1) places → Exchanges now k left place after behind
    → Moved places items stored k now left → Moved places items stored (k + 1) after behind
moves_in places items stored k place now left after behind small is swapped moved =
    let within : k < length now = omega (arith, small, moved.long) in
    let rises : Rise moved.low (length stored) (Some place ∷ drop (k + 1) places) = subst (λ (p : List (Option ℕ)). Rise moved.low (length stored) p) is moved.rise in
    let there : place < length left = omega (arith, rises.1, moved.kept) in
    let x : get_or now k swapped.item ≡ swapped.item = get_or_from_slice_get now k swapped.item swapped.item swapped.was in
    let y : get_or left place swapped.item ≡ swapped.other = get_or_from_slice_get left place swapped.other swapped.item swapped.is_stored in
    let ps = drop (k + 1) places in
    let xs = drop (k + 1) now in
    let put : take (k + 1) (set now k swapped.other) ++ drafted (set left place swapped.item) ps (drop (k + 1) (set now k swapped.other)) ≡ take k now ++ swapped.other ∷ drafted left ps xs
    = ap (λ (l : List _). l ++ drafted (set left place swapped.item) ps (drop (k + 1) (set now k swapped.other))) (take_more_set now k swapped.other within)
    ∙ append_assoc (take k now) (swapped.other ∷ []) (drafted (set left place swapped.item) ps (drop (k + 1) (set now k swapped.other)))
    ∙ ap (λ (l : List _). take k now ++ swapped.other ∷ drafted (set left place swapped.item) ps l) (drop-set-lt (k + 1) now k swapped.other (omega arith))
    ∙ ap (λ (l : List _). take k now ++ swapped.other ∷ l) (drafted_set left place (length stored) swapped.item ps xs rises.2) in
    let before : take k now ++ drafted left (drop k places) (drop k now) ≡ take k now ++ swapped.other ∷ drafted left ps xs
    = ap (λ (p : List (Option ℕ)). take k now ++ drafted left p (drop k now)) is
    ∙ ap (λ (l : List _). take k now ++ drafted left (Some place ∷ ps) l) (drop_more now k swapped.item within ∙ ap (λ (z : _). z ∷ xs) x)
    ∙ ap (λ (z : _). take k now ++ z ∷ drafted left ps xs) y in
    record {
      long = ap length swapped.now_is ∙ length-set now k swapped.other ∙ moved.long;
      kept = ap length swapped.left_is ∙ length-set left place swapped.item ∙ moved.kept;
      low = place + 1;
      rise = rises.2;
      whole = ap (λ (l : List _). take (k + 1) l ++ drafted behind ps (drop (k + 1) l)) swapped.now_is ∙ ap (λ (l : List _). take (k + 1) (set now k swapped.other) ++ drafted l ps (drop (k + 1) (set now k swapped.other))) swapped.left_is ∙ put ∙ sym before ∙ moved.whole;
    }

pub starts : {X : Type 0} (places : List (Option ℕ)) (items stored : List X) → length places ≡ length items → Rise 0 (length stored) places → Moved places items stored 0 items stored
starts places items stored long rise = record { long = sym long; kept = refl; low = 0; rise = rise; whole = refl }

-- All are moved.
pub ends : {X : Type 0} (places : List (Option ℕ)) (items stored : List X) (k : ℕ) (now left : List X) → length places ≤ k → Moved places items stored k now left → now ≡ drafted stored places items
ends places items stored k now left all moved =
    let rest : drop k places ≡ [] = drop_of_length-le places all in
    let none : drop k now ≡ [] = drop_of_length-le now (omega (arith, all, moved.long)) in
    sym (take-append-drop k now) ∙ ap (λ (l : List _). take k now ++ l) none
    ∙ sym (ap (λ (p : List (Option ℕ)). take k now ++ drafted left p (drop k now)) rest) ∙ moved.whole
