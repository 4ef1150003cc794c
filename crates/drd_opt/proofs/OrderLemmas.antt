-- Which option is the least that one list has more often, and how that decides.
use Rattle.std.proofs.Common.{◌≡◌, ℕ, ◌+◌, ◌<◌, ◌||◌, cond, Bool, true, false, Option, Some, None, List, [], ◌∷◌, ◌++◌, ◌⊎◌, inl, inr, length, map, take, drop, get_or, refl, sym, ap, subst, ◌∙◌, arith}
use Rattle.std.proofs.lemmas.List.{take_more, take-append-drop, map-append}
use Rattle.std.proofs.lemmas.List.Sums.{sum_by-append}
use Rattle.std.specs.Cmp.{upto}
use Rattle.std.specs.List.{list_any, count_by}
use Rattle.std.specs.Ordering.{is_gt, is_lt, ordering_reverse}
use Rattle.std.specs.declared.cmp.Ordering.{Ordering}
use Rattle.std.specs.declared.cmp.Ordering.TheVariants.{Less, Equal, Greater}
use Rattle.drd_opt.specs.Entries.{Entry, RawOption, raw_of}
use Rattle.drd_opt.specs.Equality.{same_raw}
use Rattle.drd_opt.specs.EqualityLaws.{raw_same}
use Rattle.drd_opt.specs.Order.{raw_cmp, is_below, IsMore, IsLeastMore}
use Rattle.drd_opt.specs.OrderLaws.{raw_ranks}
use Rattle.drd_opt.specs.SortedLaws.{Leads, HasNoMore, count_cons}

-- Lists of entries in parts.

pub one_more : (es : List Entry) (i : ℕ) (x : Entry) → i < length es → x ≡ get_or es i x → map raw_of (take (i + 1) es) ≡ map raw_of (take i es) ++ raw_of x ∷ []
one_more es i x lt is =
    ap (map raw_of) (take_more es i x lt)
    ∙ map-append raw_of (take i es) (get_or es i x ∷ [])
    ∙ ap (λ (y : Entry). map raw_of (take i es) ++ raw_of y ∷ []) (sym is)

counts_in_parts : (x : RawOption) (n : ℕ) (es : List Entry) → count_by (same_raw x) (map raw_of es) ≡ count_by (same_raw x) (map raw_of (take n es)) + count_by (same_raw x) (map raw_of (drop n es))
counts_in_parts x n es =
    ap (λ (l : List Entry). count_by (same_raw x) (map raw_of l)) (sym (take-append-drop n es))
    ∙ ap (count_by (same_raw x)) (map-append raw_of (take n es) (drop n es))
    ∙ sum_by-append (λ (y : RawOption). cond (same_raw x y) 1 0) (map raw_of (take n es)) (map raw_of (drop n es))

pub any_of_map : (p : RawOption → Bool) (es : List Entry) → list_any p (map raw_of es) ≡ list_any (λ (e : Entry). p (raw_of e)) es
any_of_map p [] = refl
any_of_map p (e ∷ es) = ap (λ (b : Bool). p (raw_of e) || b) (any_of_map p es)

-- The least so far, and one option more.

in_more_by : (y x : RawOption) (done : List RawOption) (b : Bool) → same_raw y x ≡ b → 0 < count_by (same_raw y) done + (cond b 1 0 + 0) → (0 < count_by (same_raw y) done) ⊎ (y ≡ x)
in_more_by y x done true e some = inr (raw_same y x e)
in_more_by y x done false e some = inl (omega (arith, some))

in_more : (y x : RawOption) (done : List RawOption) → 0 < count_by (same_raw y) (done ++ x ∷ []) → (0 < count_by (same_raw y) done) ⊎ (y ≡ x)
in_more y x done some =
    in_more_by y x done (same_raw y x) refl (omega (arith, some, sum_by-append (λ (z : RawOption). cond (same_raw y z) 1 0) done (x ∷ []), count_cons (same_raw y) x []))

not_above : (o : Ordering) → is_lt o ≡ true → is_gt o ≡ false
not_above Less e = refl
not_above Equal e = absurd (cc e)
not_above Greater e = absurd (cc e)

not_below : (o : Ordering) → is_lt o ≡ false → is_gt (ordering_reverse o) ≡ false
not_below Less e = absurd (cc e)
not_below Equal e = refl
not_below Greater e = refl

no_lower : (x y : RawOption) → is_lt (raw_cmp x y) ≡ false → is_gt (raw_cmp y x) ≡ false
no_lower x y e = ap is_gt (raw_ranks.total.antisymm y x) ∙ not_below (raw_cmp x y) e

itself_not_above : (x : RawOption) → is_gt (raw_cmp x x) ≡ false
itself_not_above x = no_lower x x (by (raw_cmp x x) (raw_ranks.total.antisymm x x))
  where
    by : (o : Ordering) → o ≡ ordering_reverse o → is_lt o ≡ false
    by Less e = absurd (cc e)
    by Equal e = refl
    by Greater e = refl

pub lower_leads : (done xs ys : List RawOption) (x : RawOption) (o : Option RawOption) → is_below x o ≡ true → IsMore xs ys x → IsLeastMore done xs ys o → IsLeastMore (done ++ x ∷ []) xs ys (Some x)
lower_leads done xs ys x None lower more least = (
  more,
  λ y there is. elim (in_more y x done there) [
    | inl before ↦ absurd (least y before is)
    | inr same ↦ ap (λ (z : RawOption). is_gt (raw_cmp x z)) same ∙ itself_not_above x
  ],
)
lower_leads done xs ys x (Some z) lower more least = (
  more,
  λ y there is. elim (in_more y x done there) [
    | inl before ↦ upto raw_ranks.total x z y (not_above (raw_cmp x z) lower) (least.1 y before is)
    | inr same ↦ ap (λ (w : RawOption). is_gt (raw_cmp x w)) same ∙ itself_not_above x
  ],
)

pub higher_stays : (done xs ys : List RawOption) (x : RawOption) (o : Option RawOption) → is_below x o ≡ false → IsLeastMore done xs ys o → IsLeastMore (done ++ x ∷ []) xs ys o
higher_stays done xs ys x None lower least = absurd (cc lower)
higher_stays done xs ys x (Some z) lower least = (
  least.0,
  λ y there is. elim (in_more y x done there) [
    | inl before ↦ least.1 y before is
    | inr same ↦ ap (λ (w : RawOption). is_gt (raw_cmp z w)) same ∙ no_lower x z lower
  ],
)

pub other_stays : (done xs ys : List RawOption) (x : RawOption) (o : Option RawOption) → (IsMore xs ys x → ⊥) → IsLeastMore done xs ys o → IsLeastMore (done ++ x ∷ []) xs ys o
other_stays done xs ys x None no_more least = λ y there is.
    elim (in_more y x done there) [
      | inl before ↦ least y before is
      | inr same ↦ no_more (subst (IsMore xs ys) same is)
    ]
other_stays done xs ys x (Some z) no_more least = (
  least.0,
  λ y there is. elim (in_more y x done there) [
    | inl before ↦ least.1 y before is
    | inr same ↦ absurd (no_more (subst (IsMore xs ys) same is))
  ],
)

-- The least of all stands behind a front that both have.

behind_front : (x : RawOption) (n : ℕ) (es os : List Entry) → map raw_of (take n es) ≡ map raw_of (take n os) → IsMore (map raw_of es) (map raw_of os) x → 0 < count_by (same_raw x) (map raw_of (drop n es))
behind_front x n es os same more =
    omega (arith, more, ap (count_by (same_raw x)) same, counts_in_parts x n es, counts_in_parts x n os)

pub least_of_all : (n : ℕ) (es os : List Entry) (o : Option RawOption) → map raw_of (take n es) ≡ map raw_of (take n os) → IsLeastMore (map raw_of (drop n es)) (map raw_of es) (map raw_of os) o → IsLeastMore (map raw_of es) (map raw_of es) (map raw_of os) o
least_of_all n es os None same least = λ x there more. least x (behind_front x n es os same more) more
least_of_all n es os (Some z) same least = (least.0, λ x there more. least.1 x (behind_front x n es os same more) more)

pub leads : (p : RawOption) (xs ys : List RawOption) → IsLeastMore xs xs ys (Some p) → Leads same_raw raw_cmp p xs ys
leads p xs ys least = (least.0, λ y more. least.1 y (omega (arith, more)) more)

pub has_no_more : (xs ys : List RawOption) → IsLeastMore xs xs ys None → HasNoMore same_raw xs ys
has_no_more xs ys least = λ y more. least y (omega (arith, more)) more

pub grown : (es : List Entry) (i : ℕ) (x : Entry) (xs ys : List RawOption) (o p : Option RawOption) → i < length es → x ≡ get_or es i x → IsLeastMore (map raw_of (take i es) ++ raw_of x ∷ []) xs ys o → p ≡ o → IsLeastMore (map raw_of (take (i + 1) es)) xs ys p
grown es i x xs ys o p lt is least same =
    subst (λ (q : Option RawOption). IsLeastMore (map raw_of (take (i + 1) es)) xs ys q) (sym same)
    (subst (λ (rs : List RawOption). IsLeastMore rs xs ys o) (sym (one_more es i x lt is)) least)
