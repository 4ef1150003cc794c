-- Lists in rising order, and how their order is told by how often each has what.
use Rattle.std.proofs.Common.{◌≡◌, ℕ, ◌+◌, ◌<◌, ◌||◌, cond, Bool, true, false, List, [], ◌∷◌, refl, sym, ap, subst, ◌∙◌, arith}
use Rattle.std.proofs.lemmas.List.Sorted.{IsPermutation-refl, IsPermutation-sym, IsPermutation-trans, IsPermutation-cons, IsPermutation-middle, sum_by-IsPermutation, list_any-IsPermutation}
use Rattle.std.proofs.lemmas.List.Sums.{sum_by-cons}
use Rattle.std.specs.Cmp.{IsTotalOrder, upto, tied_itself}
use Rattle.std.specs.Cmp.Lexicographic.{slice_cmp, lists_total}
use Rattle.std.specs.List.{list_any, count_by}
use Rattle.std.specs.List.Sorted.{IsPermutation}
use Rattle.std.specs.Ordering.{is_gt, is_lt, ordering_then, ordering_reverse}
use Rattle.std.specs.declared.cmp.Ordering.{Ordering}
use Rattle.std.specs.declared.cmp.Ordering.TheVariants.{Less, Equal, Greater}
use Rattle.drd_opt.specs.Order.{insert_by, sorted_by}

-- A total order that ties what is the same alone, and a test for that.
pub record Ranks {X : Type 0} (E : X → X → Bool) (R : X → X → Ordering) : Type 0 where
  pub total : IsTotalOrder R
  pub one : (x y : X) → R x y ≡ Equal → x ≡ y
  pub tells : (x y : X) → E x y ≡ true → x ≡ y
  pub itself : (x : X) → E x x ≡ true

-- A value that the first list has more often, and no lower one.
abbrev pub Leads : {X : Type 0} → (X → X → Bool) → (X → X → Ordering) → X → List X → List X → Type 0
Leads {X} E R x xs ys =
    (count_by (E x) ys < count_by (E x) xs)
    × ((y : X) → count_by (E y) ys < count_by (E y) xs → is_gt (R x y) ≡ false)

-- There is none.
abbrev pub HasNoMore : {X : Type 0} → (X → X → Bool) → List X → List X → Type 0
HasNoMore {X} E xs ys = (y : X) → count_by (E y) ys < count_by (E y) xs → ⊥

-- None of these stands below one.
abbrev IsLowest : {X : Type 0} → (X → X → Ordering) → X → List X → Type 0
IsLowest R x [] = Unit {0}
IsLowest R x (y ∷ ys) = (is_gt (R x y) ≡ false) × IsLowest R x ys

abbrev Rises : {X : Type 0} → (X → X → Ordering) → List X → Type 0
Rises R [] = Unit {0}
Rises R (x ∷ xs) = IsLowest R x xs × Rises R xs

not_above : (o : Ordering) → is_gt (ordering_reverse o) ≡ true → is_gt o ≡ false
not_above Less e = refl
not_above Equal e = absurd (cc e)
not_above Greater e = absurd (cc e)

not_below : (o : Ordering) → is_gt o ≡ false → is_lt (ordering_reverse o) ≡ false
not_below Less e = refl
not_below Equal e = refl
not_below Greater e = absurd (cc e)

turned : (b : Bool) → ordering_reverse (cond b Less Greater) ≡ cond b Greater Less
turned true = refl
turned false = refl

or_true : (b : Bool) → (b || true) ≡ true
or_true true = refl
or_true false = refl

abbrev tally : Bool → ℕ
tally b = cond b 1 0

pub level : (n m : ℕ) → (n < m → ⊥) → (m < n → ⊥) → n ≡ m
level n m f g = omega (arith, f, g)

-- Whatever the order is, putting in order moves values and keeps them.

insert_moves : {X : Type 0} (R : X → X → Ordering) (x : X) (ys : List X)
    → IsPermutation (x ∷ ys) (insert_by R x ys)
insert_moves R x [] = IsPermutation-refl (x ∷ [])
insert_moves R x (y ∷ ys) =
    elim (is_gt (R x y)) as
    (λ b. IsPermutation (x ∷ y ∷ ys) (cond b (y ∷ insert_by R x ys) (x ∷ y ∷ ys))) [
      | true ↦
          IsPermutation-trans (x ∷ y ∷ ys) (y ∷ x ∷ ys) (y ∷ insert_by R x ys)
          (IsPermutation-sym (y ∷ x ∷ ys) (x ∷ y ∷ ys) (IsPermutation-middle (y ∷ []) x ys))
          (IsPermutation-cons y (x ∷ ys) (insert_by R x ys) (insert_moves R x ys))
      | false ↦ IsPermutation-refl (x ∷ y ∷ ys)
    ]

pub sorted_moves : {X : Type 0} (R : X → X → Ordering) (xs : List X)
    → IsPermutation xs (sorted_by R xs)
sorted_moves R [] = IsPermutation-refl []
sorted_moves R (x ∷ xs) =
    IsPermutation-trans (x ∷ xs) (x ∷ sorted_by R xs) (sorted_by R (x ∷ xs))
    (IsPermutation-cons x xs (sorted_by R xs) (sorted_moves R xs))
    (insert_moves R x (sorted_by R xs))

pub sorted_counts : {X : Type 0} (R : X → X → Ordering) (p : X → Bool) (xs : List X)
    → count_by p (sorted_by R xs) ≡ count_by p xs
sorted_counts R p xs =
    sum_by-IsPermutation (λ x. cond (p x) 1 0) xs (sorted_by R xs) (sorted_moves R xs)

pub count_cons : {X : Type 0} (p : X → Bool) (x : X) (xs : List X)
    → count_by p (x ∷ xs) ≡ cond (p x) 1 0 + count_by p xs
count_cons p x xs = sum_by-cons (λ y. cond (p y) 1 0) x xs

module _ {X : Type 0} {E : X → X → Bool} {R : X → X → Ordering} (laws : Ranks E R) where
  reversed : (x y : X) (o : Ordering) → R x y ≡ o → R y x ≡ ordering_reverse o
  reversed x y o e = laws.total.antisymm y x ∙ ap ordering_reverse e

  not_itself : (x : X) → is_gt (R x x) ≡ false
  not_itself x = ap is_gt (tied_itself laws.total x)

  -- What is put in order rises.

  lower : (x y : X) (ys : List X) → is_gt (R x y) ≡ false → IsLowest R y ys → IsLowest R x ys
  lower x y [] le low = tt
  lower x y (z ∷ zs) le low = (upto laws.total x y z le low.0, lower x y zs le low.1)

  insert_lowest : (x y : X) (ys : List X) → is_gt (R x y) ≡ false → IsLowest R x ys
      → IsLowest R x (insert_by R y ys)
  insert_lowest x y [] le low = (le, tt)
  insert_lowest x y (z ∷ zs) le low =
      elim (is_gt (R y z)) as (λ b. IsLowest R x (cond b (z ∷ insert_by R y zs) (y ∷ z ∷ zs))) [
        | true ↦ (low.0, insert_lowest x y zs le low.1)
        | false ↦ (le, low)
      ]

  insert_by_test : (x y : X) (ys : List X) (b : Bool) → is_gt (R x y) ≡ b → Rises R (y ∷ ys)
      → Rises R (insert_by R x ys) → Rises R (cond b (y ∷ insert_by R x ys) (x ∷ y ∷ ys))
  insert_by_test x y ys true e up later = (
    insert_lowest y x ys (not_above (R y x) (ap is_gt (sym (laws.total.antisymm x y)) ∙ e)) up.0,
    later,
  )
  insert_by_test x y ys false e up later = ((e, lower x y ys e up.0), up)

  insert_rises : (x : X) (ys : List X) → Rises R ys → Rises R (insert_by R x ys)
  insert_rises x [] up = (tt, tt)
  insert_rises x (y ∷ ys) up =
      insert_by_test x y ys (is_gt (R x y)) refl up (insert_rises x ys up.1)

  sorted_rises : (xs : List X) → Rises R (sorted_by R xs)
  sorted_rises [] = tt
  sorted_rises (x ∷ xs) = insert_rises x (sorted_by R xs) (sorted_rises xs)

  -- The first of a list that rises stands above none in it.

  low_by : (x y z : X) (b : Bool) → E y z ≡ b → is_gt (R x z) ≡ false → (zs : List X)
      → 0 < cond b 1 0 + count_by (E y) zs → (0 < count_by (E y) zs → is_gt (R x y) ≡ false)
      → is_gt (R x y) ≡ false
  low_by x y z true e le zs some later = ap (λ (w : X). is_gt (R x w)) (laws.tells y z e) ∙ le
  low_by x y z false e le zs some later = later (omega (arith, some))

  low_is : (x y : X) (ys : List X) → IsLowest R x ys → 0 < count_by (E y) ys → is_gt (R x y) ≡ false
  low_is x y [] low some = absurd (omega (arith, some))
  low_is x y (z ∷ zs) low some =
      low_by x y z (E y z) refl low.0 zs (omega (arith, some, count_cons (E y) z zs))
      (low_is x y zs low.1)

  first_is : (x y : X) (xs : List X) → Rises R (x ∷ xs) → 0 < count_by (E y) (x ∷ xs)
      → is_gt (R x y) ≡ false
  first_is x y xs up some = low_is x y (x ∷ xs) (not_itself x, up.0) some

  has_first : (x : X) (xs : List X) → 0 < count_by (E x) (x ∷ xs)
  has_first x xs =
      let one : tally (E x x) ≡ 1 = ap tally (laws.itself x) in
      omega (arith, one, count_cons (E x) x xs)

  -- A value can't be first of one list, and stand below the first of another that has it too.
  no_less : (x y : X) (ys : List X) → Rises R (y ∷ ys) → R x y ≡ Less → 0 < count_by (E x) (y ∷ ys)
      → ⊥
  no_less x y ys up less some = cc (first_is y x ys up some, reversed x y Less less)

  -- Behind the same first value, lists have the rest as often as before.
  rest_as_often : (z x y : X) (xs ys : List X) → x ≡ y
      → count_by (E z) (x ∷ xs) ≡ count_by (E z) (y ∷ ys) → count_by (E z) xs ≡ count_by (E z) ys
  rest_as_often z x y xs ys e same =
      let one : tally (E z x) ≡ tally (E z y) = ap (λ (w : X). tally (E z w)) e in
      omega (arith, one, same, count_cons (E z) x xs, count_cons (E z) y ys)

  rest_more : (z x y : X) (xs ys : List X) → x ≡ y
      → count_by (E z) (y ∷ ys) < count_by (E z) (x ∷ xs) → count_by (E z) ys < count_by (E z) xs
  rest_more z x y xs ys e more =
      let one : tally (E z x) ≡ tally (E z y) = ap (λ (w : X). tally (E z w)) e in
      omega (arith, one, more, count_cons (E z) x xs, count_cons (E z) y ys)

  -- Lists that have everything as often are level.

  level_by : (a b : X) (s t : List X) (o : Ordering) → R a b ≡ o → Rises R (a ∷ s) → Rises R (b ∷ t)
      → ((y : X) → count_by (E y) (a ∷ s) ≡ count_by (E y) (b ∷ t))
      → (a ≡ b → slice_cmp R s t ≡ Equal) → ordering_then o (slice_cmp R s t) ≡ Equal
  level_by a b s t Less e p q same later =
      absurd (no_less a b t q e (omega (arith, same a, has_first a s)))
  level_by a b s t Equal e p q same later = later (laws.one a b e)
  level_by a b s t Greater e p q same later =
      absurd (no_less b a s p (reversed a b Greater e) (omega (arith, same b, has_first b t)))

  all_level : (s t : List X) → Rises R s → Rises R t
      → ((y : X) → count_by (E y) s ≡ count_by (E y) t) → slice_cmp R s t ≡ Equal
  all_level [] [] p q same = refl
  all_level [] (b ∷ t) p q same = absurd (omega (arith, same b, has_first b t))
  all_level (a ∷ s) [] p q same = absurd (omega (arith, same a, has_first a s))
  all_level (a ∷ s) (b ∷ t) p q same =
      level_by a b s t (R a b) refl p q same
      (λ e. all_level s t p.1 q.1 (λ y. rest_as_often y a b s t e (same y)))

  -- Where lists have all below a value as often, and the first has the value more often, the second
  -- has a greater one at that place, or none.

  abbrev is_above : X → X → Bool
  is_above x y = is_lt (R x y)

  abbrev answer : X → List X → Ordering
  answer x ys = cond (list_any (is_above x) ys) Less Greater

  less_by : (x a b : X) (s t : List X) (o : Ordering) → R a x ≡ o → is_gt o ≡ false → R a b ≡ Less
      → Rises R (b ∷ t) → (R a x ≡ Less → count_by (E a) (a ∷ s) ≡ count_by (E a) (b ∷ t))
      → Less ≡ answer x (b ∷ t)
  less_by x a b s t Less e le less q same =
      absurd (no_less a b t q less (omega (arith, same e, has_first a s)))
  less_by x a b s t Equal e le less q same =
      let above : is_above x b ≡ true =
      ap (λ (w : X). is_lt (R w b)) (sym (laws.one a x e)) ∙ ap is_lt less in
      ap (λ (c : Bool). cond (c || list_any (is_above x) t) Less Greater) (sym above)
  less_by x a b s t Greater e le less q same = absurd (cc le)

  below_by : (x a b : X) (o : Ordering) → R a x ≡ o → is_gt o ≡ false → R b a ≡ Less → R b x ≡ Less
  below_by x a b Less e le less = laws.total.trans b a x less e
  below_by x a b Equal e le less = ap (R b) (sym (laws.one a x e)) ∙ less
  below_by x a b Greater e le less = absurd (cc le)

  apart_by : (x a b : X) (s t : List X) (o : Ordering) → R a b ≡ o → Rises R (a ∷ s)
      → Rises R (b ∷ t) → ((y : X) → R y x ≡ Less → count_by (E y) (a ∷ s) ≡ count_by (E y) (b ∷ t))
      → is_gt (R a x) ≡ false → (a ≡ b → slice_cmp R s t ≡ answer x t)
      → ordering_then o (slice_cmp R s t) ≡ answer x (b ∷ t)
  apart_by x a b s t Less e p q same le later = less_by x a b s t (R a x) refl le e q (same a)
  apart_by x a b s t Equal e p q same le later =
      let one : a ≡ b = laws.one a b e in
      let none : is_above x b ≡ false =
      ap is_lt (laws.total.antisymm x b)
      ∙ not_below (R b x) (ap (λ (w : X). is_gt (R w x)) (sym one) ∙ le) in
      later one ∙ ap (λ (c : Bool). cond (c || list_any (is_above x) t) Less Greater) (sym none)
  apart_by x a b s t Greater e p q same le later =
      let less : R b a ≡ Less = reversed a b Greater e in
      absurd
      (no_less b a s p less
      (omega (arith, same b (below_by x a b (R a x) refl le less), has_first b t)))

  first_apart : (x : X) (s t : List X) → Rises R s → Rises R t
      → ((y : X) → R y x ≡ Less → count_by (E y) s ≡ count_by (E y) t)
      → count_by (E x) t < count_by (E x) s → slice_cmp R s t ≡ answer x t
  first_apart x [] t p q same more = absurd (omega (arith, more))
  first_apart x (a ∷ s) [] p q same more = refl
  first_apart x (a ∷ s) (b ∷ t) p q same more =
      apart_by x a b s t (R a b) refl p q same (first_is a x s p (omega (arith, more)))
      (λ e. first_apart x s t p.1 q.1 (λ y less. rest_as_often y a b s t e (same y less))
      (rest_more x a b s t e more))

  -- The same of lists that are put in order first.

  abbrev order : List X → List X → Ordering
  order xs ys = slice_cmp R (sorted_by R xs) (sorted_by R ys)

  pub as_often_level : (xs ys : List X) → ((y : X) → count_by (E y) xs ≡ count_by (E y) ys)
      → order xs ys ≡ Equal
  as_often_level xs ys same =
      all_level (sorted_by R xs) (sorted_by R ys) (sorted_rises xs) (sorted_rises ys)
      (λ y. sorted_counts R (E y) xs ∙ same y ∙ sym (sorted_counts R (E y) ys))

  pub more_decides : (x : X) (xs ys : List X)
      → ((y : X) → R y x ≡ Less → count_by (E y) xs ≡ count_by (E y) ys)
      → count_by (E x) ys < count_by (E x) xs → order xs ys ≡ answer x ys
  more_decides x xs ys same more =
      first_apart x (sorted_by R xs) (sorted_by R ys) (sorted_rises xs) (sorted_rises ys)
      (λ y less. sorted_counts R (E y) xs ∙ same y less ∙ sym (sorted_counts R (E y) ys))
      (omega (arith, more, sorted_counts R (E x) xs, sorted_counts R (E x) ys))
      ∙ ap (λ (b : Bool). cond b Less Greater)
      (sym (list_any-IsPermutation (is_above x) ys (sorted_by R ys) (sorted_moves R ys)))

  pub less_decides : (x : X) (xs ys : List X)
      → ((y : X) → R y x ≡ Less → count_by (E y) xs ≡ count_by (E y) ys)
      → count_by (E x) xs < count_by (E x) ys
      → order xs ys ≡ cond (list_any (is_above x) xs) Greater Less
  less_decides x xs ys same more =
      (lists_total laws.total).antisymm (sorted_by R xs) (sorted_by R ys)
      ∙ ap ordering_reverse (more_decides x ys xs (λ y less. sym (same y less)) more)
      ∙ turned (list_any (is_above x) xs)

  -- Lists of which neither stands before the other are the same.

  one_by : (a b : X) (s t : List X) (o : Ordering) → R a b ≡ o
      → ordering_then o (slice_cmp R s t) ≡ Equal → (slice_cmp R s t ≡ Equal → s ≡ t)
      → a ∷ s ≡ b ∷ t
  one_by a b s t Less e tie later = absurd (cc tie)
  one_by a b s t Equal e tie later =
      ap (λ (x : X). x ∷ s) (laws.one a b e) ∙ ap (λ (xs : List X). b ∷ xs) (later tie)
  one_by a b s t Greater e tie later = absurd (cc tie)

  lists_one : (s t : List X) → slice_cmp R s t ≡ Equal → s ≡ t
  lists_one [] [] tie = refl
  lists_one [] (b ∷ t) tie = absurd (cc tie)
  lists_one (a ∷ s) [] tie = absurd (cc tie)
  lists_one (a ∷ s) (b ∷ t) tie = one_by a b s t (R a b) refl tie (lists_one s t)

  pub level_moves : (xs ys : List X) → order xs ys ≡ Equal → IsPermutation xs ys
  level_moves xs ys tie =
      let same : sorted_by R xs ≡ sorted_by R ys =
      lists_one (sorted_by R xs) (sorted_by R ys) tie in
      IsPermutation-trans xs (sorted_by R xs) ys (sorted_moves R xs)
      (subst (λ (s : List X). IsPermutation s ys) (sym same)
      (IsPermutation-sym ys (sorted_by R ys) (sorted_moves R ys)))

  -- The least values that either list has more often decide.

  none_below : (x y : X) (xs ys : List X) → Leads E R x xs ys → R y x ≡ Less
      → count_by (E y) ys < count_by (E y) xs → ⊥
  none_below x y xs ys leads less more = cc (leads.1 y more, reversed y x Less less)

  any_by : (test : X → Bool) (y z : X) (zs : List X) (b : Bool) → E y z ≡ b → test y ≡ true
      → 0 < cond b 1 0 + count_by (E y) zs → (0 < count_by (E y) zs → list_any test zs ≡ true)
      → (test z || list_any test zs) ≡ true
  any_by test y z zs true e passes some later =
      ap (λ (c : Bool). c || list_any test zs) (ap test (sym (laws.tells y z e)) ∙ passes)
  any_by test y z zs false e passes some later =
      ap (λ (c : Bool). test z || c) (later (omega (arith, some))) ∙ or_true (test z)

  any_of : (test : X → Bool) (y : X) (ys : List X) → test y ≡ true → 0 < count_by (E y) ys
      → list_any test ys ≡ true
  any_of test y [] passes some = absurd (omega (arith, some))
  any_of test y (z ∷ zs) passes some =
      any_by test y z zs (E y z) refl passes (omega (arith, some, count_cons (E y) z zs))
      (any_of test y zs passes)

  pub first_decides : (p : X) (xs ys : List X) → Leads E R p xs ys → HasNoMore E ys xs
      → order xs ys ≡ answer p ys
  first_decides p xs ys leads none =
      more_decides p xs ys
      (λ y less. level (count_by (E y) xs) (count_by (E y) ys) (none y)
      (none_below p y xs ys leads less)) leads.0

  pub second_decides : (q : X) (xs ys : List X) → HasNoMore E xs ys → Leads E R q ys xs
      → order xs ys ≡ cond (list_any (is_above q) xs) Greater Less
  second_decides q xs ys none leads =
      less_decides q xs ys
      (λ y less. level (count_by (E y) xs) (count_by (E y) ys) (none_below q y ys xs leads less)
      (none y)) leads.0

  pub none_decides : (xs ys : List X) → HasNoMore E xs ys → HasNoMore E ys xs → order xs ys ≡ Equal
  none_decides xs ys none no_other =
      as_often_level xs ys
      (λ y. level (count_by (E y) xs) (count_by (E y) ys) (no_other y) (none y))

  both_by : (p q : X) (xs ys : List X) (o : Ordering) → R p q ≡ o → Leads E R p xs ys
      → Leads E R q ys xs → order xs ys ≡ o
  both_by p q xs ys Less e lead other =
      let any : list_any (is_above p) ys ≡ true =
      any_of (is_above p) q ys (ap is_lt e) (omega (arith, other.0)) in
      more_decides p xs ys
      (λ y less. level (count_by (E y) xs) (count_by (E y) ys)
      (none_below q y ys xs other (laws.total.trans y p q less e))
      (none_below p y xs ys lead less))
      lead.0
      ∙ ap (λ (b : Bool). cond b Less Greater) any
  both_by p q xs ys Equal e lead other =
      absurd
      (omega (
        arith,
        lead.0,
        other.0,
        ap (λ (x : X). count_by (E x) xs) (laws.one p q e),
        ap
            (λ (x : X). count_by (E x) ys) (laws.one p q e),
      ))
  both_by p q xs ys Greater e lead other =
      let less : R q p ≡ Less = reversed p q Greater e in
      let any : list_any (is_above q) xs ≡ true =
      any_of (is_above q) p xs (ap is_lt less) (omega (arith, lead.0)) in
      less_decides q xs ys
      (λ y below. level (count_by (E y) xs) (count_by (E y) ys) (none_below q y ys xs other below)
      (none_below p y xs ys lead (laws.total.trans y q p below less)))
      other.0
      ∙ ap (λ (b : Bool). cond b Greater Less) any

  pub both_decide : (p q : X) (xs ys : List X) → Leads E R p xs ys → Leads E R q ys xs
      → order xs ys ≡ R p q
  both_decide p q xs ys = both_by p q xs ys (R p q) refl
