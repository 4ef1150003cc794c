-- The last of a map's names up to a name that owns a set of a type, or else the last of those after it.
use Rattle.std.proofs.Common.{◌≡◌, refl, ap, sym, subst, ◌∙◌, append_assoc, append-nil}
use Rattle.std.specs.Prelude.{Bool, true, false, not, ◌&&◌, ◌||◌, ◌++◌, List, [], ◌∷◌, Option, Some, None, IsSome, cond, is_some}
use Rattle.std.specs.BTreeMap.{BTreeMap, IsOrdered, get, is_at}
use Rattle.std.specs.BTreeMap.Range.{entries_between, range_contains}
use Rattle.std.specs.List.{AllByRecursion, filter, list_any}
use Rattle.std.specs.List.Sorted.{IsStrictlySortedBy}
use Rattle.std.specs.Map.{keys_of, lookup}
use Rattle.std.specs.Ordering.{is_gt, is_le, is_lt, ordering_reverse}
use Rattle.std.specs.declared.cmp.Ordering.{Ordering}
use Rattle.std.specs.declared.cmp.Ordering.TheVariants.{Less, Equal, Greater}
use Rattle.std.specs.declared.ops.Bound.{Bound}
use Rattle.std.specs.declared.ops.Bound.TheVariants.{Included, Unbounded}
use Rattle.std.proofs.lemmas.Bool.{true≢false}
use Rattle.std.proofs.lemmas.List.Folds.{list_any-append}
use Rattle.std.proofs.lemmas.List.Kept.{IsStrictlySortedBy-filter}
use Rattle.std.proofs.lemmas.Map.Keys.{sorted_head, sorted_tail}
use Rattle.std.proofs.lemmas.Map.Views.{any-filter_same}
use Rattle.zst_handler.specs.dnw_codes.declared.record_type.RecordType.{RecordType}
use Rattle.zst_handler.specs.dnw_name.DomainName.{DomainName, name_cmp}
use Rattle.zst_handler.specs.dnw_name.NameOrderLaws.{name_eq-by_cmp}
use Rattle.zst_handler.specs.zst_record.RecordSets.{RRset}
use Rattle.zst_handler.specs.Zones.{rrset_at}
use Rattle.zst_key.proofs.NamesAbove.{is-equal, name_total}
use Rattle.zst_map.specs.Preceding.{FindsLast, FindsPreceding, IsLastOwned}
use Rattle.zst_map.proofs.Indexed.{rrset_same}

abbrev pub Owner : Type 0
Owner = DomainName × Unit {0}

-- Whether one of some names equals a name.
abbrev has : DomainName → List Owner → Bool
has q es = list_any (λ e. is_at (name_cmp q) e.0) es

-- ---- what comes before another, or with it
gt_back : (o : Ordering) → is_gt (ordering_reverse o) ≡ is_lt o
gt_back Less = refl
gt_back Equal = refl
gt_back Greater = refl

lt_back : (o : Ordering) → is_lt (ordering_reverse o) ≡ is_gt o
lt_back Less = refl
lt_back Equal = refl
lt_back Greater = refl

after_is : (a b : DomainName) → is_gt (name_cmp a b) ≡ is_lt (name_cmp b a)
after_is a b = ap is_gt (name_total.antisymm a b) ∙ gt_back (name_cmp b a)

le_of_lt : (o : Ordering) → is_lt o ≡ true → (is_le o && true) ≡ true
le_of_lt Less e = refl
le_of_lt Equal e = absurd (true≢false (sym e))
le_of_lt Greater e = absurd (true≢false (sym e))

-- ---- lists of names
looked : (q : DomainName) (es : List Owner) → is_some (lookup (is_at (name_cmp q)) es) ≡ has q es
looked q [] = refl
looked q (e ∷ es) = by (is_at (name_cmp q) e.0) (looked q es)
  where
    by : (b : Bool) → is_some (lookup (is_at (name_cmp q)) es) ≡ has q es → is_some (cond b (Some e.1) (lookup (is_at (name_cmp q)) es)) ≡ (b || has q es)
    by true more = refl
    by false more = more

kept_keys : (p : DomainName → Bool) (es : List Owner) → keys_of (filter (λ e. p e.0) es) ≡ filter p (keys_of es)
kept_keys p [] = refl
kept_keys p (e ∷ es) = by (p e.0) (kept_keys p es)
  where
    by : (b : Bool) → keys_of (filter (λ (x : Owner). p x.0) es) ≡ filter p (keys_of es) → keys_of (cond b (e ∷ filter (λ (x : Owner). p x.0) es) (filter (λ (x : Owner). p x.0) es)) ≡ cond b (e.0 ∷ filter p (keys_of es)) (filter p (keys_of es))
    by true more = ap (λ (ks : List DomainName). e.0 ∷ ks) more
    by false more = more

filtered : (p : Owner → Bool) (es : List Owner) → AllByRecursion (λ e. p e ≡ true) (filter p es)
filtered p [] = tt
filtered p (e ∷ es) = by (p e) refl (filtered p es)
  where
    by : (b : Bool) → p e ≡ b → AllByRecursion (λ x. p x ≡ true) (filter p es) → AllByRecursion (λ x. p x ≡ true) (cond b (e ∷ filter p es) (filter p es))
    by true is more = (is, more)
    by false is more = more

middle : (P : Owner → Type 0) (before after : List Owner) (e : Owner) → AllByRecursion P (before ++ e ∷ after) → P e
middle P [] after e all = all.0
middle P (x ∷ before) after e all = middle P before after e all.1

in_keys : (P : DomainName → Type 0) (before after : List Owner) (e : Owner) → AllByRecursion P (keys_of (before ++ e ∷ after)) → P e.0
in_keys P [] after e all = all.0
in_keys P (x ∷ before) after e all = in_keys P before after e all.1

-- In a list in order, those listed before a name are less than it.
all_before : (before after : List Owner) (e : Owner) → IsStrictlySortedBy name_cmp (keys_of (before ++ e ∷ after)) → AllByRecursion (λ x. name_cmp x.0 e.0 ≡ Less) before
all_before [] after e sorted = tt
all_before (x ∷ before) after e sorted = (
  in_keys (λ k. name_cmp x.0 k ≡ Less) before after e (sorted_head name_cmp x.0 (keys_of (before ++ e ∷ after)) sorted),
  all_before before after e (sorted_tail name_cmp x.0 (keys_of (before ++ e ∷ after)) sorted),
)

-- A name that equals one of them is not after it.
not_after : (q : DomainName) (before : List Owner) (k : DomainName) → AllByRecursion (λ x. name_cmp x.0 k ≡ Less) before → has q before ≡ true → is_lt (name_cmp k q) ≡ false
not_after q [] k all any = absurd (true≢false (sym any))
not_after q (x ∷ before) k all any = by (is_at (name_cmp q) x.0) refl any (not_after q before k all.1)
  where
    by : (b : Bool) → is_at (name_cmp q) x.0 ≡ b → (b || has q before) ≡ true → (has q before ≡ true → is_lt (name_cmp k q) ≡ false) → is_lt (name_cmp k q) ≡ false
    by true same any later = sym (after_is q k) ∙ ap is_gt (name_total.congr q x.0 k (is-equal (name_cmp q x.0) same) ∙ all.0)
    by false same any later = later any

itself_not : (q k : DomainName) → is_at (name_cmp q) k ≡ true → is_lt (name_cmp k q) ≡ false
itself_not q k same = sym (after_is q k) ∙ ap is_gt (is-equal (name_cmp q k) same)

-- ---- the loop: the names that it passed own no such set
module _ (sets : List RRset) (t : RecordType) where
  pub record Passed (names left : List Owner) : Type 0 where
    pub after : List Owner
    pub are : names ≡ left ++ after
    pub none : AllByRecursion (λ e. rrset_at sets e.0 t ≡ None) after

  pub passed_none : (names : List Owner) → Passed names names
  passed_none names = record { after = []; are = sym (append-nil names); none = tt }

  joined : (names left left' : List Owner) (e : Owner) (after : List Owner) → names ≡ left ++ after → left ≡ left' ++ e ∷ [] → names ≡ left' ++ e ∷ after
  joined names left left' e after are step = are ∙ ap (λ (l : List Owner). l ++ after) step ∙ append_assoc left' (e ∷ []) after

  pub passed_more : (names left left' : List Owner) (e : Owner) → left ≡ left' ++ e ∷ [] → rrset_at sets e.0 t ≡ None → Passed names left → Passed names left'
  passed_more names left left' e step none passed = record { after = e ∷ passed.after; are = joined names left left' e passed.after passed.are step; none = (none, passed.none) }

  pub passed_all : (names left : List Owner) → left ≡ [] → Passed names left → FindsLast sets t names None
  passed_all names left empty passed =
      subst (AllByRecursion (λ e. rrset_at sets e.0 t ≡ None)) (sym (passed.are ∙ ap (λ (l : List Owner). l ++ passed.after) empty)) passed.none

  pub passed_to : (names left left' : List Owner) (e : Owner) (set : RRset) → left ≡ left' ++ e ∷ [] → rrset_at sets e.0 t ≡ Some set → Passed names left → FindsLast sets t names (Some set)
  passed_to names left left' e set step there passed =
      record { before = left'; owner = e; after = passed.after; are = joined names left left' e passed.after passed.are step; there = there; none = passed.none }

  -- ---- who owns such a set
  no_owner : (q : DomainName) (es : List Owner) → AllByRecursion (λ e. rrset_at sets e.0 t ≡ None) es → IsSome (rrset_at sets q t) → has q es ≡ true → ⊥
  no_owner q [] all some any = true≢false (sym any)
  no_owner q (e ∷ es) all some any = by (is_at (name_cmp q) e.0) refl any (no_owner q es all.1 some)
    where
      by : (b : Bool) → is_at (name_cmp q) e.0 ≡ b → (b || has q es) ≡ true → (has q es ≡ true → ⊥) → ⊥
      by true same any later = true≢false (sym some ∙ ap is_some (sym (rrset_same sets q e.0 t (name_eq-by_cmp q e.0 ∙ same)) ∙ all.0))
      by false same any later = later any

  -- No owner among the names of a list in order is after the last one.
  none_after : (names : List Owner) (set : RRset) → IsStrictlySortedBy name_cmp (keys_of names) → (is : IsLastOwned sets t names set) → (q : DomainName) → IsSome (rrset_at sets q t) → has q names ≡ true
      → is_lt (name_cmp is.owner.0 q) ≡ false
  none_after names set sorted is q some any =
      by (has q is.before) (is_at (name_cmp q) is.owner.0) refl refl
      (sym (list_any-append (λ (e : Owner). is_at (name_cmp q) e.0) is.before (is.owner ∷ is.after)) ∙ sym (ap (has q) is.are) ∙ any)
    where
      by : (b c : Bool) → has q is.before ≡ b → is_at (name_cmp q) is.owner.0 ≡ c → (b || (c || has q is.after)) ≡ true → is_lt (name_cmp is.owner.0 q) ≡ false
      by true c e f any = not_after q is.before is.owner.0 (all_before is.before is.after is.owner (subst (λ (l : List Owner). IsStrictlySortedBy name_cmp (keys_of l)) is.are sorted)) e
      by false true e f any = itself_not q is.owner.0 f
      by false false e f any = absurd (no_owner q is.after is.none some any)

  module _ (names : BTreeMap DomainName (Unit {0})) (ordered : IsOrdered name_cmp names) (key : DomainName) (all : (q : DomainName) → IsSome (rrset_at sets q t) → IsSome (get name_cmp names q)) where
    abbrev between : Bound DomainName → Bound DomainName → List Owner
    between low high = entries_between name_cmp low high names.entries

    sorted : (low high : Bound DomainName) → IsStrictlySortedBy name_cmp (keys_of (between low high))
    sorted low high =
        subst (IsStrictlySortedBy name_cmp) (sym (kept_keys (range_contains name_cmp low high) names.entries))
        (IsStrictlySortedBy-filter name_cmp (range_contains name_cmp low high) (keys_of names.entries) ordered)

    has_between : (low high : Bound DomainName) (q : DomainName) → ((e : Owner) → is_at (name_cmp q) e.0 ≡ true → range_contains name_cmp low high e.0 ≡ true) → IsSome (rrset_at sets q t) → has q (between low high) ≡ true
    has_between low high q alike some =
        any-filter_same (λ (e : Owner). is_at (name_cmp q) e.0) (λ e. range_contains name_cmp low high e.0) true alike names.entries
        ∙ sym (looked q names.entries) ∙ all q some

    -- Names that are equal are on the same side of the name.
    alike : (q k : DomainName) → is_at (name_cmp q) k ≡ true → is_lt (name_cmp key k) ≡ is_gt (name_cmp q key)
    alike q k same = sym (after_is k key) ∙ ap is_gt (sym (name_total.congr q k key (is-equal (name_cmp q k) same)))

    has_up_to : (q : DomainName) → is_gt (name_cmp q key) ≡ false → IsSome (rrset_at sets q t) → has q (between Unbounded (Included key)) ≡ true
    has_up_to q low some = has_between Unbounded (Included key) q (λ e same. ap not (alike q e.0 same ∙ low)) some

    has_from : (q : DomainName) → is_gt (name_cmp q key) ≡ true → IsSome (rrset_at sets q t) → has q (between (Included key) Unbounded) ≡ true
    has_from q high some = has_between (Included key) Unbounded q (λ e same. le_of_lt (name_cmp key e.0) (alike q e.0 same ∙ high)) some

    up_to : (k : DomainName) → range_contains name_cmp Unbounded (Included key) k ≡ true → is_gt (name_cmp k key) ≡ false
    up_to k is = after_is k key ∙ by (is_lt (name_cmp key k)) is
      where
        by : (b : Bool) → not b ≡ true → b ≡ false
        by true e = absurd (true≢false (sym e))
        by false e = refl

    -- ---- up to the name
    pub found_before : (run : List Owner) (set : RRset) → run ≡ between Unbounded (Included key) → FindsLast sets t run (Some set) → FindsPreceding sets t key (Some set)
    found_before run set is last =
        let owner = last.owner.0 in
        let low : is_gt (name_cmp owner key) ≡ false
        = up_to owner (middle (λ e. range_contains name_cmp Unbounded (Included key) e.0 ≡ true) last.before last.after last.owner
        (subst (AllByRecursion (λ (e : Owner). range_contains name_cmp Unbounded (Included key) e.0 ≡ true)) (sym is ∙ last.are)
        (filtered (λ (e : Owner). range_contains name_cmp Unbounded (Included key) e.0) names.entries))) in (
          owner,
          record {
            there = last.there;
            last = λ up q some below. none_after run set (subst (λ (l : List Owner). IsStrictlySortedBy name_cmp (keys_of l)) (sym is) (sorted Unbounded (Included key))) last q some
                (ap (has q) is ∙ has_up_to q below some);
            around = λ high. absurd (true≢false (sym high ∙ low));
          },
        )

    -- ---- none up to the name
    none_before : (run : List Owner) → run ≡ between Unbounded (Included key) → FindsLast sets t run None → (q : DomainName) → IsSome (rrset_at sets q t) → is_gt (name_cmp q key) ≡ true
    none_before run is none q some = by (is_gt (name_cmp q key)) refl
      where
        by : (b : Bool) → is_gt (name_cmp q key) ≡ b → b ≡ true
        by true e = refl
        by false e = absurd (no_owner q run none some (ap (has q) is ∙ has_up_to q e some))

    none_at_all : (run later : List Owner) → run ≡ between Unbounded (Included key) → later ≡ between (Included key) Unbounded → FindsLast sets t run None → FindsLast sets t later None → (q : DomainName) → rrset_at sets q t ≡ None
    none_at_all run later is also none more q = by (rrset_at sets q t) refl
      where
        by : (o : Option RRset) → rrset_at sets q t ≡ o → o ≡ None
        by None e = refl
        by (Some set) e =
            let some = ap is_some e in
            absurd (no_owner q later more some (ap (has q) also ∙ has_from q (none_before run is none q some) some))

    pub found_after : (run later : List Owner) (found : Option RRset) → run ≡ between Unbounded (Included key) → later ≡ between (Included key) Unbounded → FindsLast sets t run None → FindsLast sets t later found
        → FindsPreceding sets t key found
    found_after run later None is also none more = none_at_all run later is also none more
    found_after run later (Some set) is also none last =
        let owner = last.owner.0 in
        let owns : IsSome (rrset_at sets owner t) = ap is_some last.there in (
          owner,
          record {
            there = last.there;
            last = λ low. absurd (true≢false (sym (none_before run is none owner owns) ∙ low));
            around = λ high q some. (
              none_before run is none q some,
              none_after later set (subst (λ (l : List Owner). IsStrictlySortedBy name_cmp (keys_of l)) (sym also) (sorted (Included key) Unbounded)) last q some
                  (ap (has q) also ∙ has_from q (none_before run is none q some) some),
            );
          },
        )
