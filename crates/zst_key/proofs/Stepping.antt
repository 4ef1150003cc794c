-- The last two of a map's entries up to a name: those of names above it stand at or before the second, where they aren't
-- the first of the two.
use Rattle.std.proofs.Common.{◌≡◌, ℕ, ◌<◌, Bool, true, false, ◌&&◌, ◌||◌, List, [], ◌∷◌, ◌++◌, length, refl, ap, sym, subst, ◌∙◌, arith}
use Rattle.std.specs.Prelude.{Option, Some, IsSome, is_some, cond, slice_index_or}
use Rattle.std.specs.Bool.{beq}
use Rattle.std.specs.BTreeMap.{BTreeMap, IsOrdered, get, is_at}
use Rattle.std.specs.BTreeMap.Range.{entries_between, range_contains, IsEntryInRange, IsRangeOf}
use Rattle.std.specs.List.{All, AllByRecursion, filter, list_any}
use Rattle.std.specs.List.Sorted.{IsStrictlySortedBy}
use Rattle.std.specs.Map.{keys_of, lookup}
use Rattle.std.specs.Ordering.{is_eq, is_gt, is_lt, ordering_reverse}
use Rattle.std.specs.declared.cmp.Ordering.{Ordering}
use Rattle.std.specs.declared.cmp.Ordering.TheVariants.{Less, Equal}
use Rattle.std.specs.declared.ops.Bound.TheVariants.{Included, Unbounded}
use Rattle.std.proofs.lemmas.Bool.{true≢false}
use Rattle.std.proofs.lemmas.List.Folds.{list_any-append}
use Rattle.std.proofs.lemmas.List.Kept.{IsStrictlySortedBy-filter}
use Rattle.std.proofs.lemmas.Map.Keys.{sorted_head, sorted_tail}
use Rattle.std.proofs.lemmas.Map.Views.{any-filter_same, range_contains-from_IsInRange}
use Rattle.dnw_name.specs.DomainName.{DomainName, is_at_or_below, lowercase_name, name_cmp}
use Rattle.dnw_name.specs.NameOrderLaws.{name_eq-by_cmp}
use Rattle.dnw_name.proofs.Fronts.{ancestor-first}
use Rattle.zst_key.specs.Ancestors.{up}
use Rattle.zst_key.proofs.KeyLemmas.{one-lower}
use Rattle.zst_key.proofs.NamesAbove.{IsLastAbove, beq-itself, below-up, is-equal, le-not_gt, name_total, not_behind, up-lower}

-- What stands before another, or with it, has the other not before it.
not_before : (a b : DomainName) (o : Ordering) → name_cmp a b ≡ o → is_lt (ordering_reverse o) ≡ false → is_lt (name_cmp b a) ≡ false
not_before a b o is e = ap is_lt (name_total.antisymm b a ∙ ap ordering_reverse is) ∙ e

module _ {X : Type 0} where
  -- Whether one of some entries is a name's.
  abbrev has : DomainName → List (DomainName × X) → Bool
  has q es = list_any (λ e. is_at (name_cmp q) e.0) es

  looked_step : (b : Bool) (x : X) (o : Option X) (any : Bool) → is_some o ≡ any → is_some (cond b (Some x) o) ≡ (b || any)
  looked_step true x o any e = refl
  looked_step false x o any e = e

  looked : (q : DomainName) (es : List (DomainName × X)) → is_some (lookup (is_at (name_cmp q)) es) ≡ has q es
  looked q [] = refl
  looked q (e ∷ es) = looked_step (is_at (name_cmp q) e.0) e.1 (lookup (is_at (name_cmp q)) es) (has q es) (looked q es)

  kept_step : (b : Bool) (e : DomainName × X) (es : List (DomainName × X)) (ks : List DomainName) → keys_of es ≡ ks → keys_of (cond b (e ∷ es) es) ≡ cond b (e.0 ∷ ks) ks
  kept_step true e es ks same = ap (λ (l : List DomainName). e.0 ∷ l) same
  kept_step false e es ks same = same

  kept_keys : (p : DomainName → Bool) (es : List (DomainName × X)) → keys_of (filter (λ e. p e.0) es) ≡ filter p (keys_of es)
  kept_keys p [] = refl
  kept_keys p (e ∷ es) = kept_step (p e.0) e (filter (λ e. p e.0) es) (filter p (keys_of es)) (kept_keys p es)

  in_keys : (P : DomainName → Type 0) (t rest : List (DomainName × X)) (b : DomainName × X) → AllByRecursion P (keys_of (t ++ b ∷ rest)) → P b.0
  in_keys P [] rest b all = all.0
  in_keys P (e ∷ t) rest b all = in_keys P t rest b all.1

  before : (t rest : List (DomainName × X)) (b : DomainName × X) → IsStrictlySortedBy name_cmp (keys_of (t ++ b ∷ rest)) → AllByRecursion (λ e. name_cmp e.0 b.0 ≡ Less) t
  before [] rest b sorted = tt
  before (e ∷ t) rest b sorted = (
    in_keys (λ k. name_cmp e.0 k ≡ Less) t rest b (sorted_head name_cmp e.0 (keys_of (t ++ b ∷ rest)) sorted),
    before t rest b (sorted_tail name_cmp e.0 (keys_of (t ++ b ∷ rest)) sorted),
  )

  -- A name that one of these entries has is not behind what they are all before.
  among : (q : DomainName) (t : List (DomainName × X)) (b : DomainName) → AllByRecursion (λ e. name_cmp e.0 b ≡ Less) t → has q t ≡ true → is_lt (name_cmp b q) ≡ false
  among q [] b all any = absurd (true≢false (sym any))
  among q (e ∷ t) b all any = by (is_at (name_cmp q) e.0) refl any (λ h. among q t b all.1 h)
    where
      by : (hit : Bool) → is_at (name_cmp q) e.0 ≡ hit → (hit || has q t) ≡ true → (has q t ≡ true → is_lt (name_cmp b q) ≡ false) → is_lt (name_cmp b q) ≡ false
      by true same h rest =
          not_before q b Less (name_total.congr q e.0 b (is-equal (name_cmp q e.0) same) ∙ all.0) refl
      by false same h rest = rest h

  among_or : (q : DomainName) (t : List (DomainName × X)) (b : DomainName × X) → AllByRecursion (λ e. name_cmp e.0 b.0 ≡ Less) t → has q (t ++ b ∷ []) ≡ true → is_lt (name_cmp b.0 q) ≡ false
  among_or q t b all any = by (has q t) refl (sym (list_any-append (λ e. is_at (name_cmp q) e.0) t (b ∷ [])) ∙ any)
    where
      last : (hit : Bool) → is_at (name_cmp q) b.0 ≡ hit → (hit || false) ≡ true → is_lt (name_cmp b.0 q) ≡ false
      last true same h = not_before q b.0 Equal (is-equal (name_cmp q b.0) same) refl
      last false same h = absurd (true≢false (sym h))

      by : (one : Bool) → has q t ≡ one → (one || has q (b ∷ [])) ≡ true → is_lt (name_cmp b.0 q) ≡ false
      by true there h = among q t b.0 all there
      by false there h = last (is_at (name_cmp q) b.0) refl h

  not_last : (q : DomainName) (s : List (DomainName × X)) (a : DomainName × X) → has q (s ++ a ∷ []) ≡ true → is_eq (name_cmp q a.0) ≡ false → has q s ≡ true
  not_last q s a any off = by (has q s) (sym (list_any-append (λ e. is_at (name_cmp q) e.0) s (a ∷ [])) ∙ any)
    where
      by : (one : Bool) → (one || has q (a ∷ [])) ≡ true → one ≡ true
      by true h = refl
      by false h = absurd (true≢false (sym h ∙ ap (λ (b : Bool). b || false) off))

  second_at : (t : List (DomainName × X)) (b a d : DomainName × X) → slice_index_or ((t ++ b ∷ []) ++ a ∷ []) (length t) d ≡ b
  second_at [] b a d = refl
  second_at (e ∷ t) b a d = second_at t b a d

  second_within : (t : List (DomainName × X)) (b a : DomainName × X) → length t < length ((t ++ b ∷ []) ++ a ∷ [])
  second_within [] b a = omega arith
  second_within (e ∷ t) b a = omega (arith, second_within t b a)

  joined : (t rest : List (DomainName × X)) (b : DomainName × X) → (t ++ b ∷ []) ++ rest ≡ t ++ b ∷ rest
  joined [] rest b = refl
  joined (e ∷ t) rest b = ap (λ (l : List (DomainName × X)). e ∷ l) (joined t rest b)

module _ {X : Type 0} (names : BTreeMap DomainName X) (ordered : IsOrdered name_cmp names) (key : DomainName) where
  -- The entries up to the name.
  abbrev up_to : List (DomainName × X)
  up_to = entries_between name_cmp Unbounded (Included key) names.entries

  contains_alike : (q : DomainName) → is_gt (name_cmp q key) ≡ false → (e : DomainName × X) → is_at (name_cmp q) e.0 ≡ true → range_contains name_cmp Unbounded (Included key) e.0 ≡ true
  contains_alike q low e same =
      range_contains-from_IsInRange name_total Unbounded (Included key) e.0 (tt, ap is_gt (sym (name_total.congr q e.0 key (is-equal (name_cmp q e.0) same))) ∙ low)

  has_up_to : (q : DomainName) → is_gt (name_cmp q key) ≡ false → IsSome (get name_cmp names q) → has q up_to ≡ true
  has_up_to q low some =
      any-filter_same (λ (e : DomainName × X). is_at (name_cmp q) e.0) (λ e. range_contains name_cmp Unbounded (Included key) e.0) true (contains_alike q low) names.entries
      ∙ sym (looked q names.entries) ∙ some

  sorted_up_to : IsStrictlySortedBy name_cmp (keys_of up_to)
  sorted_up_to =
      subst (IsStrictlySortedBy name_cmp) (sym (kept_keys (range_contains name_cmp Unbounded (Included key)) names.entries))
      (IsStrictlySortedBy-filter name_cmp (range_contains name_cmp Unbounded (Included key)) (keys_of names.entries) ordered)

  at_or_before : (n : ℕ) → is_gt (name_cmp (up key n) key) ≡ false
  at_or_before n = le-not_gt (name_cmp (up key n) key) (ancestor-first key (up key n) (below-up key n) refl)

  -- Where there is a last entry, those of the names above stand at or before it.
  pub first_above : (t : List (DomainName × X)) (a : DomainName × X) → IsRangeOf name_cmp Unbounded (Included key) names up_to → up_to ≡ t ++ a ∷ []
      → IsLastAbove (get name_cmp names) key a.0 a.1
  first_above t a range is =
      let entry = range.3 a t is in
      record {
        up_to = entry.0.1;
        there = entry.1;
        last = λ n some. not_behind a.0 (up key n) (range.4 a t is (up key n) (tt, at_or_before n) some);
      }

  -- Where there is none, no name above has one.
  pub nothing_above : up_to ≡ [] → (n : ℕ) → IsSome (get name_cmp names (up key n)) → ⊥
  nothing_above is n some =
      true≢false (sym (has_up_to (up key n) (at_or_before n) some) ∙ ap (has (up key n)) is)

  module _ (t : List (DomainName × X)) (a : DomainName × X) (low : lowercase_name key ≡ key) (also : lowercase_name a.0 ≡ a.0)
      (off : (beq key.fqdn a.0.fqdn && is_at_or_below key a.0) ≡ false) where
    -- The last entry is of none of the names above.
    other_above : (n : ℕ) → is_eq (name_cmp (up key n) a.0) ≡ false
    other_above n = by (is_eq (name_cmp (up key n) a.0)) refl
      where
        by : (b : Bool) → is_eq (name_cmp (up key n) a.0) ≡ b → b ≡ false
        by false e = refl
        by true e =
            let one : up key n ≡ a.0 = sym (up-lower key n low) ∙ one-lower (up key n) a.0 (name_eq-by_cmp (up key n) a.0 ∙ e) ∙ also in
            let on : (beq key.fqdn a.0.fqdn && is_at_or_below key a.0) ≡ true
            = subst (λ (p : DomainName). (beq key.fqdn p.fqdn && is_at_or_below key p) ≡ true) one (rw (beq-itself key.fqdn) (below-up key n)) in
            absurd (true≢false (sym on ∙ off))

    -- It is the only one up to the name.
    pub none_above : up_to ≡ [] ++ a ∷ [] → (n : ℕ) → IsSome (get name_cmp names (up key n)) → ⊥
    none_above is n some =
        let there = not_last (up key n) [] a (subst (λ (l : List (DomainName × X)). has (up key n) l ≡ true) is (has_up_to (up key n) (at_or_before n) some)) (other_above n) in
        true≢false (sym there)

    -- There is one before it.
    pub second_above : (b : DomainName × X) → All (IsEntryInRange name_cmp Unbounded (Included key) names) up_to → up_to ≡ (t ++ b ∷ []) ++ a ∷ []
        → IsLastAbove (get name_cmp names) key b.0 b.1
    second_above b all is =
        let entry = subst (IsEntryInRange name_cmp Unbounded (Included key) names)
        (ap (λ (l : List (DomainName × X)). slice_index_or l (length t) a) is ∙ second_at t b a a)
        (all (length t) a (subst (λ (l : List (DomainName × X)). length t < length l) (sym is) (second_within t b a))) in
        let sorted = subst (λ (l : List (DomainName × X)). IsStrictlySortedBy name_cmp (keys_of l)) (is ∙ joined t (a ∷ []) b) sorted_up_to in
        record {
          up_to = entry.0.1;
          there = entry.1;
          last = λ n some. not_behind b.0 (up key n)
              (among_or (up key n) t b (before t (a ∷ []) b sorted)
              (not_last (up key n) (t ++ b ∷ []) a (subst (λ (l : List (DomainName × X)). has (up key n) l ≡ true) is (has_up_to (up key n) (at_or_before n) some)) (other_above n)));
        }

-- The same of what a search of the map gives.
module _ {X : Type 0} (names : BTreeMap DomainName X) (ordered : IsOrdered name_cmp names) (key : DomainName) (found : List (DomainName × X))
    (between : found ≡ up_to names ordered key) where
  pub nothing_found : found ≡ [] → (n : ℕ) → IsSome (get name_cmp names (up key n)) → ⊥
  nothing_found none = nothing_above names ordered key (sym between ∙ none)

  pub first_found : IsRangeOf name_cmp Unbounded (Included key) names found → (s : List (DomainName × X)) (a : DomainName × X) → found ≡ s ++ a ∷ []
      → IsLastAbove (get name_cmp names) key a.0 a.1
  first_found range s a is =
      first_above names ordered key s a (subst (IsRangeOf name_cmp Unbounded (Included key) names) between range) (sym between ∙ is)

  module _ (s : List (DomainName × X)) (a : DomainName × X) (is : found ≡ s ++ a ∷ []) (low : lowercase_name key ≡ key) (also : lowercase_name a.0 ≡ a.0)
      (off : (beq key.fqdn a.0.fqdn && is_at_or_below key a.0) ≡ false) where
    pub only_found : s ≡ [] → (n : ℕ) → IsSome (get name_cmp names (up key n)) → ⊥
    only_found none = none_above names ordered key [] a low also off (sym between ∙ is ∙ ap (λ (l : List (DomainName × X)). l ++ a ∷ []) none)

    pub second_found : IsRangeOf name_cmp Unbounded (Included key) names found → (t : List (DomainName × X)) (b : DomainName × X) → s ≡ t ++ b ∷ []
        → IsLastAbove (get name_cmp names) key b.0 b.1
    second_found range t b before =
        second_above names ordered key t a low also off b (subst (All (IsEntryInRange name_cmp Unbounded (Included key) names)) between range.0)
        (sym between ∙ is ∙ ap (λ (l : List (DomainName × X)). l ++ a ∷ []) before)
