-- Labels in octets, with their lengths.
use Rattle.std.proofs.Common.{◌≡◌, ◌∙◌, ◌⊎◌, inl, inr, ◌↔◌, IsTrue, ℕ, zero, suc, Bor, Option, Some, None, MatchOption, drop-drop, ◌+◌, ◌-◌, ◌≤◌, ◌<◌, List, [], ◌∷◌, ◌++◌, append-nil, append_assoc, All, length, map, take, drop, get_or, refl, ap, sym, subst, arith, Bool, true, false, ◌&&◌, nat_eq}
use Rattle.std.specs.List.{refill, sum_by}
use Rattle.std.specs.Result.{IsOk, OnOk}
use Rattle.std.specs.declared.result.Result.{Result}
use Rattle.std.specs.declared.result.Result.TheVariants.{Ok, Err}
use Rattle.std.specs.Char.{to_ascii_lowercase}
use Rattle.std.specs.Str.{str_to_ascii_lowercase, bytes_eq}
use Rattle.std.specs.Cmp.Lexicographic.{pointwise, same_text}
use Rattle.std.proofs.Math.Seq.{take-append_seam, drop-append_seam, drop-append-add, drop-length, take-length}
use Rattle.std.proofs.lemmas.Bool.Decides.{nat_tests}
use Rattle.std.proofs.lemmas.Cmp.{nat_list_eq_equiv}
use Rattle.std.proofs.lemmas.Grind.{flat_map-append}
use Rattle.std.proofs.lemmas.List.{length-append, length-map, map-append, length-take-le}
use Rattle.std.proofs.lemmas.List.Sums.{sum_by-cons}
use Rattle.std.proofs.lemmas.List.Elements.{All-nil, All-push, All-cons, All-head, All-tail, All-append}
use Rattle.dnw_label.specs.Label.{IsLabel, label_eq}
use Rattle.dnw_label.specs.Labels.{label_octets, labels_of, HoldLabels, SpeltSoFar}

labels_of-held : (labels : List (List ℕ)) → labels_of (map length labels) (label_octets labels) ≡ labels
labels_of-held [] = refl
labels_of-held (x ∷ xs) =
    ap (λ l. l ∷ labels_of (map length xs) (drop (length x) (x ++ label_octets xs))) (take-append_seam x (label_octets xs))
    ∙ ap (λ os. x ∷ labels_of (map length xs) os) (drop-append_seam x (label_octets xs))
    ∙ ap (λ ls. x ∷ ls) (labels_of-held xs)

-- Octets hold one list of labels.
pub held : (octets lengths : List ℕ) (labels : List (List ℕ)) → HoldLabels octets lengths labels → labels_of lengths octets ≡ labels
held octets lengths labels h = ap (λ ls. labels_of ls octets) h.measured ∙ ap (labels_of (map length labels)) h.spelled ∙ labels_of-held labels

pub holds : (octets lengths : List ℕ) (labels : List (List ℕ)) → HoldLabels octets lengths labels → HoldLabels octets lengths (labels_of lengths octets)
holds octets lengths labels h = subst (HoldLabels octets lengths) (sym (held octets lengths labels h)) h

pub none : HoldLabels [] [] []
none = record { each = All-nil IsLabel; spelled = refl; measured = refl }

pub both : (octets lengths others more : List ℕ) (xs ys : List (List ℕ)) → HoldLabels octets lengths xs → HoldLabels others more ys → HoldLabels (octets ++ others) (lengths ++ more) (xs ++ ys)
both octets lengths others more xs ys h k =
    record {
      each = All-append IsLabel xs ys h.each k.each;
      spelled = ap (λ os. os ++ others) h.spelled ∙ ap (λ os. label_octets xs ++ os) k.spelled ∙ sym (flat_map-append (λ label. length label ∷ label) xs ys);
      measured = ap (λ ls. ls ++ more) h.measured ∙ ap (λ ls. map length xs ++ ls) k.measured ∙ sym (map-append length xs ys);
    }

-- Labels that octets spell.
pub spelt : (labels : List (List ℕ)) → All IsLabel labels → HoldLabels (label_octets labels) (map length labels) labels
spelt labels each = record { each = each; spelled = refl; measured = refl }

pub one : (label : List ℕ) → IsLabel label → HoldLabels (length label ∷ label) (length label ∷ []) (label ∷ [])
one label is = record { each = All-push IsLabel [] label (All-nil IsLabel) is; spelled = sym (append-nil (length label ∷ label)); measured = refl }

pub length-label_octets : (labels : List (List ℕ)) → length (label_octets labels) ≡ sum_by (λ label. length label + 1) labels
length-label_octets [] = refl
length-label_octets (x ∷ xs) = omega (arith, length-append x (label_octets xs), length-label_octets xs, sum_by-cons (λ label. length label + 1) x xs)

-- Behind the first label.
pub record Behind (octets : List ℕ) (n : ℕ) (lengths rest : List ℕ) : Type 0 where
  pub fits : n + 1 ≤ length octets
  pub first : labels_of lengths octets ≡ take n (drop 1 octets) ∷ labels_of rest (drop n (drop 1 octets))
  pub holds : HoldLabels (drop n (drop 1 octets)) rest (labels_of rest (drop n (drop 1 octets)))

pub behind : (octets : List ℕ) (n : ℕ) (rest : List ℕ) (x : List ℕ) (xs : List (List ℕ)) → HoldLabels octets (n ∷ rest) (x ∷ xs) → Behind octets n (n ∷ rest) rest
behind octets n rest x xs h =
    let long : n ≡ length x = ap (λ ls. get_or ls 0 0) h.measured in
    let others : rest ≡ map length xs = ap (drop 1) h.measured in
    let left : drop n (drop 1 octets) ≡ label_octets xs =
    ap (λ os. drop n (drop 1 os)) h.spelled ∙ ap (λ k. drop k (x ++ label_octets xs)) long ∙ drop-append_seam x (label_octets xs) in
    record {
      fits = omega (arith, ap length h.spelled, length-append x (label_octets xs), long);
      first = refl;
      holds = holds (drop n (drop 1 octets)) rest xs (record { each = All-tail IsLabel x xs h.each; spelled = left; measured = others });
    }

pub behind-first : (octets lengths : List ℕ) (n : ℕ) (rest : List ℕ) → lengths ≡ n ∷ rest → HoldLabels octets lengths (labels_of lengths octets) → Behind octets n lengths rest
behind-first octets lengths n rest e h =
    subst (λ ls. Behind octets n ls rest) (sym e)
    (behind octets n rest (take n (drop 1 octets)) (labels_of rest (drop n (drop 1 octets))) (subst (λ ls. HoldLabels octets ls (labels_of ls octets)) e h))

-- Before the last label.
pub record Before (octets : List ℕ) (n : ℕ) (lengths rest : List ℕ) : Type 0 where
  pub fits : n + 1 ≤ length octets
  pub last : labels_of lengths octets ≡ labels_of rest (take (length octets - n - 1) octets) ++ drop (length octets - n) octets ∷ []
  pub holds : HoldLabels (take (length octets - n - 1) octets) rest (labels_of rest (take (length octets - n - 1) octets))

last-of : {X : Type 0} (xs : List X) → (xs ≡ []) ⊎ ((front : List X) × (x : X) × (xs ≡ front ++ x ∷ []))
last-of [] = inl refl
last-of {X} (y ∷ ys) = by (last-of ys)
  where
    by : (ys ≡ []) ⊎ ((front : List X) × (x : X) × (ys ≡ front ++ x ∷ [])) → (y ∷ ys ≡ []) ⊎ ((front : List X) × (x : X) × (y ∷ ys ≡ front ++ x ∷ []))
    by (inl e) = inr ([], y, ap (λ l. y ∷ l) e)
    by (inr (front, x, e)) = inr (y ∷ front, x, ap (λ l. y ∷ l) e)

same-last : (xs ys : List ℕ) (x y : ℕ) → xs ++ x ∷ [] ≡ ys ++ y ∷ [] → (xs ≡ ys) × (x ≡ y)
same-last [] [] x y e = (refl, ap (λ l. get_or l 0 0) e)
same-last [] (b ∷ ys) x y e = absurd (omega (arith, ap length e, length-append ys (y ∷ [])))
same-last (a ∷ xs) [] x y e = absurd (omega (arith, ap length e, length-append xs (x ∷ [])))
same-last (a ∷ xs) (b ∷ ys) x y e =
    let rest = same-last xs ys x y (ap (drop 1) e) in
    (ap (λ k. k ∷ xs) (ap (λ l. get_or l 0 0) e) ∙ ap (λ l. b ∷ l) rest.0, rest.1)

before : (octets : List ℕ) (n : ℕ) (rest : List ℕ) (xs : List (List ℕ)) (x : List ℕ) → HoldLabels octets (rest ++ n ∷ []) (xs ++ x ∷ []) → Before octets n (rest ++ n ∷ []) rest
before octets n rest xs x h =
    let lengths = same-last rest (map length xs) n (length x) (h.measured ∙ map-append length xs (x ∷ [])) in
    let spelled : octets ≡ label_octets xs ++ length x ∷ x =
    h.spelled ∙ flat_map-append (λ label. length label ∷ label) xs (x ∷ []) ∙ ap (λ os. label_octets xs ++ os) (append-nil (length x ∷ x)) in
    let long : length octets ≡ length (label_octets xs) + 1 + length x = omega (arith, ap length spelled, length-append (label_octets xs) (length x ∷ x)) in
    let here : length octets - n ≡ length (label_octets xs) + 1 = omega (arith, long, lengths.1) in
    let there : length octets - n - 1 ≡ length (label_octets xs) = omega (arith, here) in
    let front : take (length octets - n - 1) octets ≡ label_octets xs =
    ap (λ k. take k octets) there ∙ ap (take (length (label_octets xs))) spelled ∙ take-append_seam (label_octets xs) (length x ∷ x) in
    let end : drop (length octets - n) octets ≡ x =
    ap (λ k. drop k octets) here ∙ ap (drop (length (label_octets xs) + 1)) spelled ∙ drop-append-add (label_octets xs) (length x ∷ x) 1 in
    let front-holds : HoldLabels (take (length octets - n - 1) octets) rest xs =
    record { each = All-front xs x h.each; spelled = front; measured = lengths.0 } in
    record {
      fits = omega (arith, long, lengths.1);
      last =
          held octets (rest ++ n ∷ []) (xs ++ x ∷ []) h
          ∙ ap (λ ls. ls ++ x ∷ []) (sym (held (take (length octets - n - 1) octets) rest xs front-holds))
          ∙ ap (λ l. labels_of rest (take (length octets - n - 1) octets) ++ l ∷ []) (sym end);
      holds = holds (take (length octets - n - 1) octets) rest xs front-holds;
    }
  where
    All-front : (ys : List (List ℕ)) (y : List ℕ) → All IsLabel (ys ++ y ∷ []) → All IsLabel ys
    All-front [] y all = All-nil IsLabel
    All-front (z ∷ ys) y all = All-cons IsLabel z ys (All-head IsLabel z (ys ++ y ∷ []) all) (All-front ys y (All-tail IsLabel z (ys ++ y ∷ []) all))

pub before-last : (octets lengths : List ℕ) (n : ℕ) (rest : List ℕ) → lengths ≡ rest ++ n ∷ [] → HoldLabels octets lengths (labels_of lengths octets) → Before octets n lengths rest
before-last octets lengths n rest e h =
    subst (λ ls. Before octets n ls rest) (sym e) (by (labels_of (rest ++ n ∷ []) octets) (last-of (labels_of (rest ++ n ∷ []) octets)) (subst (λ ls. HoldLabels octets ls (labels_of ls octets)) e h))
  where
    by : (labels : List (List ℕ)) → (labels ≡ []) ⊎ ((front : List (List ℕ)) × (x : List ℕ) × (labels ≡ front ++ x ∷ [])) → HoldLabels octets (rest ++ n ∷ []) labels → Before octets n (rest ++ n ∷ []) rest
    by labels (inl none) k = absurd (omega (arith, length-append rest (n ∷ []), ap length k.measured, ap (λ (l : List (List ℕ)). length (map length l)) none))
    by labels (inr (front, x, whole)) k = before octets n rest front x (subst (HoldLabels octets (rest ++ n ∷ [])) whole k)

-- The same octets spell the same labels.
label_octets-same : (xs ys : List (List ℕ)) → label_octets xs ≡ label_octets ys → xs ≡ ys
label_octets-same [] [] e = refl
label_octets-same [] (y ∷ ys) e = absurd (omega (arith, ap length e))
label_octets-same (x ∷ xs) [] e = absurd (omega (arith, ap length e))
label_octets-same (x ∷ xs) (y ∷ ys) e =
    let long : length x ≡ length y = ap (λ os. get_or os 0 0) e in
    let others : x ++ label_octets xs ≡ y ++ label_octets ys = ap (drop 1) e in
    let first : x ≡ y = sym (take-append_seam x (label_octets xs)) ∙ ap (take (length x)) others ∙ ap (λ k. take k (y ++ label_octets ys)) long ∙ take-append_seam y (label_octets ys) in
    let later : label_octets xs ≡ label_octets ys = sym (drop-append_seam x (label_octets xs)) ∙ ap (drop (length x)) others ∙ ap (λ k. drop k (y ++ label_octets ys)) long ∙ drop-append_seam y (label_octets ys) in
    ap (λ l. l ∷ xs) first ∙ ap (λ ls. y ∷ ls) (label_octets-same xs ys later)

pub same-case : (b : Bool) (octets others : List ℕ) (xs ys : List (List ℕ)) → octets ≡ label_octets xs → others ≡ label_octets ys → b ≡ pointwise nat_eq octets others → IsTrue b ↔ (xs ≡ ys)
same-case b octets others xs ys mine other e = (
  λ t. label_octets-same xs ys (sym mine ∙ same_text octets others (sym t ∙ e) ∙ other),
  λ same. e ∙ ap (λ os. pointwise nat_eq os others) (mine ∙ ap label_octets same ∙ sym other) ∙ nat_list_eq_equiv.refl others,
)

-- Octets in lower case spell labels in lower case.
lower-length : (n : ℕ) → n ≤ 63 → to_ascii_lowercase n ≡ n
lower-length n few = grind (arith, nat_tests)

pub lower-octets : (labels : List (List ℕ)) → All IsLabel labels → map to_ascii_lowercase (label_octets labels) ≡ label_octets (map str_to_ascii_lowercase labels)
lower-octets [] all = refl
lower-octets (x ∷ xs) all =
    let is = All-head IsLabel x xs all in
    ap (λ k. k ∷ map to_ascii_lowercase (x ++ label_octets xs)) (lower-length (length x) is.few ∙ sym (length-map x to_ascii_lowercase))
    ∙ ap (λ os. length (str_to_ascii_lowercase x) ∷ os) (map-append to_ascii_lowercase x (label_octets xs) ∙ ap (λ os. str_to_ascii_lowercase x ++ os) (lower-octets xs (All-tail IsLabel x xs all)))

lower-lengths : (labels : List (List ℕ)) → map length labels ≡ map length (map str_to_ascii_lowercase labels)
lower-lengths [] = refl
lower-lengths (x ∷ xs) = ap (λ k. k ∷ map length xs) (sym (length-map x to_ascii_lowercase)) ∙ ap (λ ks. length (str_to_ascii_lowercase x) ∷ ks) (lower-lengths xs)

lower-each : (labels : List (List ℕ)) → All IsLabel labels → All IsLabel (map str_to_ascii_lowercase labels)
lower-each [] all = All-nil IsLabel
lower-each (x ∷ xs) all =
    let is = All-head IsLabel x xs all in
    All-cons IsLabel (str_to_ascii_lowercase x) (map str_to_ascii_lowercase xs)
    (record { some = omega (arith, length-map x to_ascii_lowercase, is.some); few = omega (arith, length-map x to_ascii_lowercase, is.few) })
    (lower-each xs (All-tail IsLabel x xs all))

pub lowered : (octets lengths : List ℕ) (labels : List (List ℕ)) → HoldLabels octets lengths labels → HoldLabels (map to_ascii_lowercase octets) lengths (map str_to_ascii_lowercase labels)
lowered octets lengths labels h =
    record {
      each = lower-each labels h.each;
      spelled = ap (map to_ascii_lowercase) h.spelled ∙ lower-octets labels h.each;
      measured = h.measured ∙ lower-lengths labels;
    }

-- Labels are alike where they are the same in lower case.
alike-lower : (xs ys : List (List ℕ)) → true ≡ pointwise label_eq xs ys → map str_to_ascii_lowercase xs ≡ map str_to_ascii_lowercase ys
alike-lower [] [] e = refl
alike-lower [] (y ∷ ys) e = absurd (cc)
alike-lower (x ∷ xs) [] e = absurd (cc)
alike-lower (x ∷ xs) (y ∷ ys) e =
    let parts = both-true (label_eq x y) (pointwise label_eq xs ys) e in
    ap (λ l. l ∷ map str_to_ascii_lowercase xs) (same_text (str_to_ascii_lowercase x) (str_to_ascii_lowercase y) parts.0)
    ∙ ap (λ ls. str_to_ascii_lowercase y ∷ ls) (alike-lower xs ys parts.1)
  where
    both-true : (a b : Bool) → true ≡ a && b → (true ≡ a) × (true ≡ b)
    both-true true b h = (refl, h)
    both-true false b h = absurd (cc)

lower-alike : (xs ys : List (List ℕ)) → map str_to_ascii_lowercase xs ≡ map str_to_ascii_lowercase ys → true ≡ pointwise label_eq xs ys
lower-alike [] [] e = refl
lower-alike [] (y ∷ ys) e = absurd (omega (arith, ap length e))
lower-alike (x ∷ xs) [] e = absurd (omega (arith, ap length e))
lower-alike (x ∷ xs) (y ∷ ys) e =
    let first : str_to_ascii_lowercase x ≡ str_to_ascii_lowercase y = ap (λ ls. get_or ls 0 (str_to_ascii_lowercase y)) e in
    let alike : true ≡ label_eq x y = sym (nat_list_eq_equiv.refl (str_to_ascii_lowercase y)) ∙ ap (λ l. bytes_eq l (str_to_ascii_lowercase y)) (sym first) in
    lower-alike xs ys (ap (drop 1) e) ∙ ap (λ b. b && pointwise label_eq xs ys) alike

pub same-but_case : (b : Bool) (octets lengths : List ℕ) (xs : List (List ℕ)) (others more : List ℕ) (ys : List (List ℕ)) → HoldLabels octets lengths xs → HoldLabels others more ys → IsTrue b ↔ (map to_ascii_lowercase octets ≡ map to_ascii_lowercase others) → b ≡ pointwise label_eq xs ys
same-but_case b octets lengths xs others more ys h k test =
    let mine : map to_ascii_lowercase octets ≡ label_octets (map str_to_ascii_lowercase xs) = (lowered octets lengths xs h).spelled in
    let other : map to_ascii_lowercase others ≡ label_octets (map str_to_ascii_lowercase ys) = (lowered others more ys k).spelled in
    by b (pointwise label_eq xs ys)
    (λ t. lower-alike xs ys (label_octets-same (map str_to_ascii_lowercase xs) (map str_to_ascii_lowercase ys) (sym mine ∙ test.0 t ∙ other)))
    (λ e. test.1 (mine ∙ ap label_octets (alike-lower xs ys e) ∙ sym other))
  where
    by : (a c : Bool) → (IsTrue a → true ≡ c) → (true ≡ c → IsTrue a) → a ≡ c
    by true c to from = to refl
    by false true to from = from refl
    by false false to from = refl

take-take : {X : Type 0} (m n : ℕ) (xs : List X) → m ≤ n → take m (take n xs) ≡ take m xs
take-take zero n xs h = refl
take-take (suc m) zero xs h = absurd (omega (arith, h))
take-take (suc m) (suc n) [] h = refl
take-take (suc m) (suc n) (x ∷ xs) h = ap (λ l. x ∷ l) (take-take m n xs (omega (arith, h)))

-- What is left is shorter.
pub shorter : (xs ys : List (List ℕ)) (x : List ℕ) → xs ≡ ys ++ x ∷ [] → length ys < length xs
shorter xs ys x e = omega (arith, ap length e, length-append ys (x ∷ []))

-- A step more behind so many.
pub step-more : (r : Option (Bor (List ℕ))) (all now later : List (List ℕ)) (n : ℕ) → now ≡ drop n all → MatchOption r ((now ≡ []) × (later ≡ [])) (λ x. now ≡ x.now ∷ later) → later ≡ drop (n + 1) all
step-more None all now later n e (empty, left) = left ∙ sym (ap (drop 1) empty) ∙ ap (drop 1) e ∙ drop-drop 1 n all
step-more (Some x) all now later n e step = sym (ap (drop 1) step) ∙ ap (drop 1) e ∙ drop-drop 1 n all

pub shorter-front : (octets front : List ℕ) (m n : ℕ) → m ≡ n → front ≡ take (length octets - m) octets → n + 1 ≤ length octets → take (length front - 1) front ≡ take (length octets - n - 1) octets
shorter-front octets front m n e is fits =
    let long : length front ≡ length octets - n = ap length is ∙ length-take-le (length octets - m) octets (omega arith) ∙ ap (λ k. length octets - k) e in
    ap (λ k. take (k - 1) front) long ∙ ap (take (length octets - n - 1)) (is ∙ ap (λ k. take (length octets - k) octets) e)
    ∙ take-take (length octets - n - 1) (length octets - n) octets (omega arith)

pub on-ok : {T E P : Type 0} (r : Result T E) → IsOk r → OnOk r P → P
on-ok (Ok x) is p = p
on-ok (Err e) is p = absurd (cc)

pub given-on : {T E P : Type 0} (r : Result T E) → P → OnOk r P
given-on (Ok x) p = p
given-on (Err e) p = tt

-- Octets and lengths that were copied hold the same labels.
pub copied : (octets lengths from measured : List ℕ) (labels : List (List ℕ)) → octets ≡ from → from ≡ label_octets labels → lengths ≡ measured → HoldLabels (label_octets labels) measured labels → HoldLabels octets lengths labels
copied octets lengths from measured labels e f g h = record { each = h.each; spelled = e ∙ f; measured = g ∙ h.measured }

-- A list in the place of another of its length.
pub refilled : (xs ys : List ℕ) → length ys ≡ length xs → refill (length xs) xs ys ≡ ys
refilled xs ys e =
    ap (λ n. take (length xs) (ys ++ drop n xs)) e ∙ ap (λ l. take (length xs) (ys ++ l)) (drop-length xs)
    ∙ ap (take (length xs)) (append-nil ys) ∙ ap (λ n. take n ys) (sym e) ∙ take-length ys

pub lowered-place : (octets lengths written lower : List ℕ) (labels : List (List ℕ)) → HoldLabels octets lengths labels → written ≡ octets → lower ≡ map to_ascii_lowercase written → HoldLabels (refill (length octets) octets lower) lengths (map str_to_ascii_lowercase labels)
lowered-place octets lengths written lower labels h e f =
    let new : lower ≡ map to_ascii_lowercase octets = f ∙ ap (map to_ascii_lowercase) e in
    subst (λ os. HoldLabels os lengths (map str_to_ascii_lowercase labels))
    (sym (refilled octets lower (ap length new ∙ length-map octets to_ascii_lowercase) ∙ new))
    (lowered octets lengths labels h)

-- A label behind others: its length, then its octets.
pub pushed : (octets lengths front more after : List ℕ) (labels : List (List ℕ)) (label : List ℕ) → HoldLabels octets lengths labels → IsLabel label → front ≡ octets ++ length label ∷ [] → after ≡ front ++ label → more ≡ lengths ++ length label ∷ [] → HoldLabels after more (labels ++ label ∷ [])
pushed octets lengths front more after labels label h is e f g =
    let whole : after ≡ octets ++ length label ∷ label = f ∙ ap (λ os. os ++ label) e ∙ append_assoc octets (length label ∷ []) label in
    let all = both octets lengths (length label ∷ label) (length label ∷ []) labels (label ∷ []) h (one label is) in
    record { each = all.each; spelled = whole ∙ all.spelled; measured = g ∙ all.measured }

pub spelt-start : (before spelled rest lengths : List ℕ) (labels : List (List ℕ)) → All IsLabel labels → spelled ≡ label_octets labels → rest ≡ spelled → lengths ≡ before → SpeltSoFar before spelled rest lengths
spelt-start before spelled rest lengths labels each whole e f =
    record { done = []; later = labels; each = each; whole = whole; left = e ∙ whole; counted = f ∙ sym (append-nil before) }

-- The label that is next.
pub record NextSpelt (before spelled lengths : List ℕ) (n : ℕ) (behind : List ℕ) : Type 0 where
  pub fits : n ≤ length behind
  pub small : n < 256
  pub more : (longer : List ℕ) → longer ≡ lengths ++ n ∷ [] → SpeltSoFar before spelled (drop n behind) longer

pub spelt-next : (before spelled rest lengths : List ℕ) (n : ℕ) (behind : List ℕ) → rest ≡ n ∷ behind → SpeltSoFar before spelled rest lengths → NextSpelt before spelled lengths n behind
spelt-next before spelled rest lengths n behind e h = by h.later h.each h.whole (sym e ∙ h.left)
  where
    by : (later : List (List ℕ)) → All IsLabel (h.done ++ later) → spelled ≡ label_octets (h.done ++ later) → n ∷ behind ≡ label_octets later → NextSpelt before spelled lengths n behind
    by [] each whole left = absurd (omega (arith, ap length left))
    by (x ∷ xs) each whole left =
        let long : n ≡ length x = ap (λ l. get_or l 0 0) left in
        let tail : behind ≡ x ++ label_octets xs = ap (drop 1) left in
        let is = All-at h.done x xs each in
        record {
          fits = omega (arith, long, ap length tail, length-append x (label_octets xs));
          small = omega (arith, long, is.few);
          more = λ longer f. record {
            done = h.done ++ x ∷ [];
            later = xs;
            each = subst (All IsLabel) (sym (append_assoc h.done (x ∷ []) xs)) each;
            whole = whole ∙ ap label_octets (sym (append_assoc h.done (x ∷ []) xs));
            left = ap (λ k. drop k behind) long ∙ ap (drop (length x)) tail ∙ drop-append_seam x (label_octets xs);
            counted =
                f ∙ ap (λ ls. ls ++ n ∷ []) h.counted ∙ append_assoc before (map length h.done) (n ∷ [])
                ∙ ap (λ k. before ++ (map length h.done ++ k ∷ [])) long ∙ ap (λ ls. before ++ ls) (sym (map-append length h.done (x ∷ [])));
          };
        }
      where
        All-at : (ys : List (List ℕ)) (y : List ℕ) (zs : List (List ℕ)) → All IsLabel (ys ++ y ∷ zs) → IsLabel y
        All-at [] y zs all = All-head IsLabel y zs all
        All-at (w ∷ ys) y zs all = All-at ys y zs (All-tail IsLabel w (ys ++ y ∷ zs) all)

no-octets : (labels : List (List ℕ)) → [] ≡ label_octets labels → labels ≡ []
no-octets labels e = sym (label_octets-same [] labels e)

pub spelt-whole : (before spelled rest lengths : List ℕ) → length rest ≡ 0 → SpeltSoFar before spelled rest lengths → (labels : List (List ℕ)) × All IsLabel labels × (spelled ≡ label_octets labels) × (lengths ≡ before ++ map length labels)
spelt-whole before spelled rest lengths none h =
    let left : h.later ≡ [] = no-octets h.later (sym (empty rest none) ∙ h.left) in
    let all : h.done ++ h.later ≡ h.done = ap (λ l. h.done ++ l) left ∙ append-nil h.done in
    (h.done, subst (All IsLabel) all h.each, h.whole ∙ ap label_octets all, h.counted)
  where
    empty : (xs : List ℕ) → length xs ≡ 0 → xs ≡ []
    empty [] e = refl
    empty (x ∷ xs) e = absurd (omega (arith, e))

-- Labels that octets spell, behind others.
pub spelt-behind : (octets lengths spelled after more : List ℕ) (labels : List (List ℕ)) → HoldLabels octets lengths labels → after ≡ octets ++ spelled → (others : List (List ℕ)) × All IsLabel others × (spelled ≡ label_octets others) × (more ≡ lengths ++ map length others) → (others : List (List ℕ)) × (spelled ≡ label_octets others) × HoldLabels after more (labels ++ others)
spelt-behind octets lengths spelled after more labels h e (others, each, whole, counted) =
    let all = both octets lengths (label_octets others) (map length others) labels others h (spelt others each) in
    (others, whole, record { each = all.each; spelled = e ∙ ap (λ os. octets ++ os) whole ∙ all.spelled; measured = counted ∙ all.measured })

pub same-spelt : (spelled : List ℕ) (xs ys : List (List ℕ)) → spelled ≡ label_octets xs → spelled ≡ label_octets ys → xs ≡ ys
same-spelt spelled xs ys e f = label_octets-same xs ys (sym e ∙ f)

-- What was put behind others, taken away.
pub taken-away : (before lengths : List ℕ) (spelled rest : List ℕ) → SpeltSoFar before spelled rest lengths → (n : ℕ) → n ≡ length before → take n lengths ≡ before
taken-away before lengths spelled rest h n e = ap (λ k. take k lengths) e ∙ ap (take (length before)) h.counted ∙ take-append_seam before (map length h.done)

-- Labels that were gone through behind others.
pub spelt-more : (before spelled rest lengths behind more longer : List ℕ) → SpeltSoFar before spelled rest lengths → SpeltSoFar [] rest behind more → longer ≡ lengths ++ more → SpeltSoFar before spelled behind longer
spelt-more before spelled rest lengths behind more longer h g e =
    let same : h.later ≡ g.done ++ g.later = label_octets-same h.later (g.done ++ g.later) (sym h.left ∙ g.whole) in
    let all : h.done ++ h.later ≡ (h.done ++ g.done) ++ g.later = ap (λ ls. h.done ++ ls) same ∙ sym (append_assoc h.done g.done g.later) in
    record {
      done = h.done ++ g.done;
      later = g.later;
      each = subst (All IsLabel) all h.each;
      whole = h.whole ∙ ap label_octets all;
      left = g.left;
      counted =
          e ∙ ap (λ ls. ls ++ more) h.counted ∙ append_assoc before (map length h.done) more
          ∙ ap (λ ls. before ++ (map length h.done ++ ls)) g.counted ∙ ap (λ ls. before ++ ls) (sym (map-append length h.done g.done));
    }

-- What is left is spelled by labels too.
pub spelt-later : (before spelled rest lengths : List ℕ) → SpeltSoFar before spelled rest lengths → (labels : List (List ℕ)) × All IsLabel labels × (rest ≡ label_octets labels)
spelt-later before spelled rest lengths h = (h.later, behind h.done h.later h.each, h.left)
  where
    behind : (xs ys : List (List ℕ)) → All IsLabel (xs ++ ys) → All IsLabel ys
    behind [] ys all = all
    behind (x ∷ xs) ys all = behind xs ys (All-tail IsLabel x (xs ++ ys) all)
