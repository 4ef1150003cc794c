-- A name at or below another: its labels from the right begin with the other's.
use Rattle.std.proofs.Common.{◌≡◌, ℕ, ◌<◌, ◌≤◌, ◌-◌, ◌++◌, Bool, true, false, ◌&&◌, List, [], ◌∷◌, length, take, drop, reverse, refl, ap, sym, ◌∙◌, arith, rules, inl, inr}
use Rattle.std.specs.Cmp.{IsTotalOrder}
use Rattle.std.specs.Cmp.Lexicographic.{slice_cmp, pointwise}
use Rattle.std.specs.Cmp.Rules.{comparing}
use Rattle.std.specs.List.{starts_with, ends_with}
use Rattle.std.specs.Ordering.{bool_cmp, ordering_then, ordering_reverse, is_le, is_eq, eq_by_cmp}
use Rattle.std.specs.declared.cmp.Ordering.{Ordering}
use Rattle.std.specs.declared.cmp.Ordering.TheVariants.{Less, Equal, Greater}
use Rattle.std.proofs.lemmas.Bool.{cases_lt}
use Rattle.std.proofs.lemmas.List.{reverse-append, take-append-drop, length-reverse, length-drop}
use Rattle.dnw_net.specs.dnw_label.Label.{label_cmp, label_eq}
use Rattle.dnw_name.specs.DomainName.{DomainName, name_cmp, is_at_or_below}
use Rattle.dnw_name.specs.NameOrderLaws.{label_eq-by_cmp, pointwise-reverse}

-- A list begins with the items of another.
abbrev pub is_front : {K : Type 0} → (K → K → Bool) → List K → List K → Bool
is_front E [] xs = true
is_front E (z ∷ zs) [] = false
is_front E (z ∷ zs) (x ∷ xs) = E z x && is_front E zs xs

pub starts_with-front : {K : Type 0} (E : K → K → Bool) (xs zs : List K) → starts_with E xs zs ≡ is_front E zs xs
starts_with-front E xs [] = refl
starts_with-front E [] (z ∷ zs) = refl
starts_with-front E (x ∷ xs) (z ∷ zs) = ap (λ b. E z x && b) (starts_with-front E xs zs)

-- A list of the front's length is the front where they agree item by item.
pointwise-front : {K : Type 0} (E : K → K → Bool) (zs front rest : List K) → length zs ≡ length front → pointwise E zs front ≡ is_front E zs (front ++ rest)
pointwise-front E [] [] rest e = refl
pointwise-front E [] (x ∷ front) rest e = absurd (omega arith)
pointwise-front E (z ∷ zs) [] rest e = absurd (omega arith)
pointwise-front E (z ∷ zs) (x ∷ front) rest e = ap (λ b. E z x && b) (pointwise-front E zs front rest (omega arith))

-- No list is the front of a shorter one.
pointwise-longer : {K : Type 0} (E : K → K → Bool) (zs xs : List K) → length xs ≤ length zs → pointwise E zs xs ≡ is_front E zs xs
pointwise-longer E [] [] e = refl
pointwise-longer E [] (x ∷ xs) e = absurd (omega arith)
pointwise-longer E (z ∷ zs) [] e = refl
pointwise-longer E (z ∷ zs) (x ∷ xs) e = ap (λ b. E z x && b) (pointwise-longer E zs xs (omega arith))

reverse-parts : {K : Type 0} (xs : List K) (n : ℕ) → reverse xs ≡ reverse (drop n xs) ++ reverse (take n xs)
reverse-parts xs n = ap reverse (sym (take-append-drop n xs)) ∙ reverse-append (take n xs) (drop n xs)

-- The end of a list is the front of the reversed one.
pub ends_with-front : {K : Type 0} (E : K → K → Bool) (xs zs : List K) → ends_with E xs zs ≡ is_front E (reverse zs) (reverse xs)
ends_with-front E xs zs =
    sym (pointwise-reverse E zs (drop (length xs - length zs) xs))
    ∙ elim (cases_lt (length xs) (length zs)) [ inl longer ↦ too_long longer | inr fits ↦ long_enough fits ]
  where
    too_long : length xs < length zs → pointwise E (reverse zs) (reverse (drop (length xs - length zs) xs)) ≡ is_front E (reverse zs) (reverse xs)
    too_long longer =
        let none : length xs - length zs ≡ 0 = omega arith in
        ap (λ n. pointwise E (reverse zs) (reverse (drop n xs))) none
        ∙ pointwise-longer E (reverse zs) (reverse xs) (omega (arith, length-reverse xs, length-reverse zs))

    long_enough : length zs ≤ length xs → pointwise E (reverse zs) (reverse (drop (length xs - length zs) xs)) ≡ is_front E (reverse zs) (reverse xs)
    long_enough fits =
        let n = length xs - length zs in
        pointwise-front E (reverse zs) (reverse (drop n xs)) (reverse (take n xs))
        (omega (arith, length-reverse zs, length-reverse (drop n xs), length-drop n xs))
        ∙ ap (is_front E (reverse zs)) (sym (reverse-parts xs n))

pub at_or_below-front : (name ancestor : DomainName) → is_at_or_below name ancestor ≡ is_front label_eq (reverse ancestor.labels) (reverse name.labels)
at_or_below-front name ancestor = ends_with-front label_eq name.labels ancestor.labels

first_step : (o : Ordering) (front : Bool) (rest : Ordering) → (is_eq o && front) ≡ true → (front ≡ true → is_le rest ≡ true) → is_le (ordering_then o rest) ≡ true
first_step Less front rest h more = refl
first_step Equal front rest h more = more h
first_step Greater front rest h more = h

together_step : (zy yx zx : Ordering) (front goes_on : Bool) (low high : Ordering) → (zx ≡ Equal → zy ≡ ordering_reverse yx) → (is_eq zx && front) ≡ true → is_le (ordering_then zy low) ≡ true → is_le (ordering_then yx high) ≡ true → (front ≡ true → is_le low ≡ true → is_le high ≡ true → goes_on ≡ true) → (is_eq zy && goes_on) ≡ true
together_step zy yx Less front goes_on low high tied h p q more = absurd (cc)
together_step zy yx Greater front goes_on low high tied h p q more = absurd (cc)
together_step Less Less Equal front goes_on low high tied h p q more = let e = tied refl in cc
together_step Less Equal Equal front goes_on low high tied h p q more = let e = tied refl in cc
together_step Less Greater Equal front goes_on low high tied h p q more = q
together_step Equal Less Equal front goes_on low high tied h p q more = let e = tied refl in cc
together_step Equal Equal Equal front goes_on low high tied h p q more = more h p q
together_step Equal Greater Equal front goes_on low high tied h p q more = let e = tied refl in cc
together_step Greater yx Equal front goes_on low high tied h p q more = p

module _ {K : Type 0} (R : K → K → Ordering) (total : IsTotalOrder R) where
  -- A front stands before the list.
  pub front-first : (zs xs : List K) → is_front (eq_by_cmp R) zs xs ≡ true → is_le (slice_cmp R zs xs) ≡ true
  front-first [] [] h = refl
  front-first [] (x ∷ xs) h = refl
  front-first (z ∷ zs) [] h = absurd (cc)
  front-first (z ∷ zs) (x ∷ xs) h =
      first_step (R z x) (is_front (eq_by_cmp R) zs xs) (slice_cmp R zs xs) h (front-first zs xs)

  -- What stands between a front and the list begins with the front.
  pub fronts-together : (zs ys xs : List K) → is_front (eq_by_cmp R) zs xs ≡ true → is_le (slice_cmp R zs ys) ≡ true → is_le (slice_cmp R ys xs) ≡ true → is_front (eq_by_cmp R) zs ys ≡ true
  fronts-together [] ys xs h p q = refl
  fronts-together (z ∷ zs) ys [] h p q = absurd (cc)
  fronts-together (z ∷ zs) [] (x ∷ xs) h p q = p
  fronts-together (z ∷ zs) (y ∷ ys) (x ∷ xs) h p q =
      together_step (R z y) (R y x) (R z x)
      (is_front (eq_by_cmp R) zs xs) (is_front (eq_by_cmp R) zs ys) (slice_cmp R zs ys) (slice_cmp R ys xs)
      (λ tied. total.congr z x y tied ∙ total.antisymm x y) h p q (fronts-together zs ys xs)

label_cmp-total : IsTotalOrder label_cmp
label_cmp-total = search (comparing, rules)

is_front-same : {K : Type 0} (E F : K → K → Bool) → ((x y : K) → E x y ≡ F x y) → (zs xs : List K) → is_front E zs xs ≡ is_front F zs xs
is_front-same E F e [] xs = refl
is_front-same E F e (z ∷ zs) [] = refl
is_front-same E F e (z ∷ zs) (x ∷ xs) =
    ap (λ b. b && is_front E zs xs) (e z x) ∙ ap (λ b. F z x && b) (is_front-same E F e zs xs)

-- What `is_at_or_below` says of the labels from the right.
below-front : (name ancestor : DomainName) → is_at_or_below name ancestor ≡ is_front (eq_by_cmp label_cmp) (reverse ancestor.labels) (reverse name.labels)
below-front name ancestor =
    at_or_below-front name ancestor
    ∙ is_front-same label_eq (eq_by_cmp label_cmp) label_eq-by_cmp (reverse ancestor.labels) (reverse name.labels)

flags_alike : (f g : Bool) (o : Ordering) → f ≡ g → is_le o ≡ true → is_le (ordering_then (bool_cmp f g) o) ≡ true
flags_alike true true o e h = h
flags_alike false false o e h = h
flags_alike true false o e h = absurd (cc)
flags_alike false true o e h = refl

-- An ancestor stands before the names below it.
pub ancestor-first : (name ancestor : DomainName) → is_at_or_below name ancestor ≡ true → ancestor.fqdn ≡ name.fqdn → is_le (name_cmp ancestor name) ≡ true
ancestor-first name ancestor below flags =
    flags_alike ancestor.fqdn name.fqdn (slice_cmp label_cmp (reverse ancestor.labels) (reverse name.labels)) flags
    (front-first label_cmp label_cmp-total (reverse ancestor.labels) (reverse name.labels) (sym (below-front name ancestor) ∙ below))

between_flags : (f g h : Bool) (low high : Ordering) → f ≡ h → is_le (ordering_then (bool_cmp f g) low) ≡ true → is_le (ordering_then (bool_cmp g h) high) ≡ true → (is_le low ≡ true) × (is_le high ≡ true)
between_flags true true true low high e p q = (p, q)
between_flags false false false low high e p q = (p, q)
between_flags true false true low high e p q = absurd (cc)
between_flags false true false low high e p q = absurd (cc)
between_flags true true false low high e p q = absurd (cc)
between_flags true false false low high e p q = absurd (cc)
between_flags false true true low high e p q = absurd (cc)
between_flags false false true low high e p q = absurd (cc)

-- What stands between an ancestor and a name below it is below the ancestor too.
pub descendants-together : (name ancestor : DomainName) → is_at_or_below name ancestor ≡ true → ancestor.fqdn ≡ name.fqdn → (between : DomainName) → is_le (name_cmp ancestor between) ≡ true → is_le (name_cmp between name) ≡ true → is_at_or_below between ancestor ≡ true
descendants-together name ancestor below flags between low high =
    let parts = between_flags ancestor.fqdn between.fqdn name.fqdn
    (slice_cmp label_cmp (reverse ancestor.labels) (reverse between.labels))
    (slice_cmp label_cmp (reverse between.labels) (reverse name.labels)) flags low high in
    below-front between ancestor
    ∙ fronts-together label_cmp label_cmp-total (reverse ancestor.labels) (reverse between.labels) (reverse name.labels)
    (sym (below-front name ancestor) ∙ below) parts.0 parts.1
