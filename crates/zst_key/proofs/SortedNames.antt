-- The last entry of a sorted list that isn't after a name.
use Rattle.std.proofs.Common.{◌≡◌, ℕ, zero, suc, ◌-◌, ◌<◌, ◌≤◌, Bool, true, false, List, [], ◌∷◌, length, ◌++◌, take, drop, refl, ap, sym, ◌∙◌, subst, arith}
use Rattle.std.specs.Prelude.{Option, Some, None, Result, Ok, Err, OnOk, OnErr, IsSome, is_some, cond, slice_get, slice_index_or, slice_set}
use Rattle.std.specs.List.{AllByRecursion, AllWithin}
use Rattle.std.specs.List.Sorted.{IsPartitionedBy, IsStrictlySortedBy}
use Rattle.std.specs.Map.{keys_of, remove_entry, set_value}
use Rattle.std.specs.BTreeMap.{insert_entry}
use Rattle.std.specs.Ordering.{is_eq, is_gt, is_le, is_lt, match_ordering, ordering_reverse}
use Rattle.std.specs.declared.cmp.Ordering.{Ordering}
use Rattle.std.specs.declared.cmp.Ordering.TheVariants.{Less, Equal, Greater}
use Rattle.std.proofs.lemmas.Bool.{true≢false}
use Rattle.std.proofs.lemmas.Map.Keys.{sorted_head, sorted_tail}
use Rattle.dnw_name.specs.DomainName.{DomainName, name_cmp}
use Rattle.zst_key.specs.Ancestors.{IsLastUpTo}
use Rattle.zst_key.specs.Sorted.{CountsUpTo, entry_at, is_up_to}
use Rattle.zst_key.proofs.NamesAbove.{is-equal, le-not_gt, name_total}

not-gt : (o : Ordering) → is_gt o ≡ false → is_le o ≡ false → ⊥
not-gt Less low off = true≢false off
not-gt Equal low off = true≢false off
not-gt Greater low off = true≢false low

-- A name that is another's stands to any name as the other does.
as-equal : (p q r : DomainName) → name_cmp q r ≡ Equal → name_cmp p q ≡ name_cmp p r
as-equal p q r same =
    name_total.antisymm p q ∙ ap ordering_reverse (name_total.congr q r p same) ∙ sym (name_total.antisymm p r)

own-order : (o : Ordering) → o ≡ ordering_reverse o → o ≡ Equal
own-order Less e = absurd (cc e)
own-order Equal e = refl
own-order Greater e = absurd (cc e)

equal-itself : (name : DomainName) → name_cmp name name ≡ Equal
equal-itself name = own-order (name_cmp name name) (name_total.antisymm name name)

-- A sorted list passes a name once.
up-before : (key a b : DomainName) → name_cmp a b ≡ Less → is_up_to key b ≡ true → is_up_to key a ≡ true
up-before key a b less up = by (name_cmp b key) refl up
  where
    by : (o : Ordering) → name_cmp b key ≡ o → is_le o ≡ true → is_up_to key a ≡ true
    by Less before le = ap is_le (name_total.trans a b key less before)
    by Equal same le = ap is_le (sym (as-equal a b key same) ∙ less)
    by Greater after le = absurd (true≢false (sym le))

not-le : (o : Ordering) → is_le o ≡ false → o ≡ Greater
not-le Less off = absurd (true≢false off)
not-le Equal off = absurd (true≢false off)
not-le Greater off = refl

le-apart : (o : Ordering) → is_le o ≡ true → is_eq o ≡ false → o ≡ Less
le-apart Less le apart = refl
le-apart Equal le apart = absurd (true≢false apart)
le-apart Greater le apart = absurd (true≢false (sym le))

reversed-eq : (o : Ordering) → is_eq (ordering_reverse o) ≡ is_eq o
reversed-eq Less = refl
reversed-eq Equal = refl
reversed-eq Greater = refl

eq-swapped : (a b : DomainName) → is_eq (name_cmp a b) ≡ is_eq (name_cmp b a)
eq-swapped a b = ap is_eq (name_total.antisymm a b) ∙ reversed-eq (name_cmp b a)

not-after : (key : DomainName) → is_gt (name_cmp key key) ≡ false
not-after key = ap is_gt (equal-itself key)

not-eq : (o : Ordering) → o ≡ Greater → is_eq o ≡ false
not-eq Less e = absurd (cc e)
not-eq Equal e = absurd (cc e)
not-eq Greater e = refl

module _ {X : Type 0} where
  -- None of the entries is up to a name: so no name up to it has one.
  none-at : (key other : DomainName) (es : List (DomainName × X)) → is_gt (name_cmp other key) ≡ false
      → AllWithin (λ (e : DomainName × X). is_up_to key e.0 ≡ false) es 0 (length es) → entry_at es other ≡ None
  none-at key other [] low off = refl
  none-at key other (e ∷ es) low off =
      by (is_eq (name_cmp other e.0)) refl (none-at key other es low (λ k d ge lt. off (suc k) d (omega arith) (omega (arith, lt))))
    where
      by : (b : Bool) → is_eq (name_cmp other e.0) ≡ b → entry_at es other ≡ None → cond b (Some e.1) (entry_at es other) ≡ None
      by true same later =
          absurd (not-gt (name_cmp e.0 key) (ap is_gt (sym (name_total.congr other e.0 key (is-equal (name_cmp other e.0) same))) ∙ low) (off 0 e (omega arith) (omega arith)))
      by false apart later = later

  -- What has an entry behind the first is after the first.
  after-first : (first q : DomainName) (es : List (DomainName × X)) → AllByRecursion (λ k. name_cmp first k ≡ Less) (keys_of es)
      → IsSome (entry_at es q) → name_cmp first q ≡ Less
  after-first first q [] all some = absurd (cc some)
  after-first first q (e ∷ es) all some = by (is_eq (name_cmp q e.0)) refl some (after-first first q es all.1)
    where
      by : (b : Bool) → is_eq (name_cmp q e.0) ≡ b → IsSome (cond b (Some e.1) (entry_at es q)) → (IsSome (entry_at es q) → name_cmp first q ≡ Less) → name_cmp first q ≡ Less
      by true same there later = as-equal first q e.0 (is-equal (name_cmp q e.0) same) ∙ all.0
      by false apart there later = later there

  itself : (e : DomainName × X) (es : List (DomainName × X)) → entry_at (e ∷ es) e.0 ≡ Some e.1
  itself e es = ap (λ (o : Ordering). cond (is_eq o) (Some e.1) (entry_at es e.0)) (equal-itself e.0)

  -- The first entry is the last up to the name, where none behind it is.
  first-last : (key : DomainName) (e : DomainName × X) (es : List (DomainName × X)) → is_up_to key e.0 ≡ true → IsLastUpTo (entry_at es) key None → IsLastUpTo (entry_at (e ∷ es)) key (Some e)
  first-last key e es up none = (
    le-not_gt (name_cmp e.0 key) up,
    itself e es,
    λ other low some. by other low (is_eq (name_cmp other e.0)) refl some,
  )
    where
      by : (other : DomainName) → is_gt (name_cmp other key) ≡ false → (b : Bool) → is_eq (name_cmp other e.0) ≡ b → IsSome (cond b (Some e.1) (entry_at es other)) → is_lt (name_cmp e.0 other) ≡ false
      by other low true same there =
          ap is_lt (name_total.antisymm e.0 other ∙ ap ordering_reverse (is-equal (name_cmp other e.0) same))
      by other low false apart there =
          absurd (true≢false (sym there ∙ ap is_some (none other low)))

  -- The last behind the first is the last of all.
  later-last : (key : DomainName) (e : DomainName × X) (es : List (DomainName × X)) (p : DomainName × X) → AllByRecursion (λ k. name_cmp e.0 k ≡ Less) (keys_of es)
      → IsLastUpTo (entry_at es) key (Some p) → IsLastUpTo (entry_at (e ∷ es)) key (Some p)
  later-last key e es p all last =
      let after : name_cmp e.0 p.0 ≡ Less = after-first e.0 p.0 es all (rw last.1) in
      let back : name_cmp p.0 e.0 ≡ Greater = name_total.antisymm p.0 e.0 ∙ ap ordering_reverse after in (
        last.0,
        ap (λ (o : Ordering). cond (is_eq o) (Some e.1) (entry_at es p.0)) back ∙ last.1,
        λ other low some. by back other low (is_eq (name_cmp other e.0)) refl some,
      )
    where
      by : name_cmp p.0 e.0 ≡ Greater → (other : DomainName) → is_gt (name_cmp other key) ≡ false → (b : Bool) → is_eq (name_cmp other e.0) ≡ b → IsSome (cond b (Some e.1) (entry_at es other)) → is_lt (name_cmp p.0 other) ≡ false
      by back other low true same there =
          ap is_lt (as-equal p.0 other e.0 (is-equal (name_cmp other e.0) same) ∙ back)
      by back other low false apart there = last.2 other low there

  is-there : (xs : List (DomainName × X)) (n : ℕ) → n < length xs → slice_get xs n ≡ None → ⊥
  is-there [] n lt e = omega (arith, lt)
  is-there (x ∷ xs) zero lt e = cc e
  is-there (x ∷ xs) (suc n) lt e = is-there xs n (omega (arith, lt)) e

  joined : (key : DomainName) (e : DomainName × X) (es t : List (DomainName × X)) → is_up_to key e.0 ≡ true → AllByRecursion (λ k. name_cmp e.0 k ≡ Less) (keys_of es)
      → IsLastUpTo (entry_at es) key (slice_get t (length t - 1)) → IsLastUpTo (entry_at (e ∷ es)) key (slice_get (e ∷ t) (length t))
  joined key e es [] up all last = first-last key e es up last
  joined key e es (f ∷ t) up all last =
      by (slice_get (f ∷ t) (length t)) refl (subst (λ (n : ℕ). IsLastUpTo (entry_at es) key (slice_get (f ∷ t) n)) (omega arith) last)
    where
      by : (o : Option (DomainName × X)) → slice_get (f ∷ t) (length t) ≡ o → IsLastUpTo (entry_at es) key o → IsLastUpTo (entry_at (e ∷ es)) key o
      by None is last = absurd (is-there (f ∷ t) (length t) (omega arith) is)
      by (Some p) is last = later-last key e es p all last

  -- The last before the point where a sorted list passes a name.
  pub last-before : (key : DomainName) (es : List (DomainName × X)) (i : ℕ) → IsStrictlySortedBy name_cmp (keys_of es)
      → AllWithin (λ (e : DomainName × X). is_up_to key e.0 ≡ true) es 0 i → AllWithin (λ (e : DomainName × X). is_up_to key e.0 ≡ false) es i (length es)
      → i ≤ length es → IsLastUpTo (entry_at es) key (slice_get (take i es) (length (take i es) - 1))
  last-before key es zero sorted on off le = λ other low. none-at key other es low off
  last-before key [] (suc i) sorted on off le = λ other low. refl
  last-before key (e ∷ es) (suc i) sorted on off le =
      subst (λ (n : ℕ). IsLastUpTo (entry_at (e ∷ es)) key (slice_get (e ∷ take i es) n)) (omega arith)
      (joined key e es (take i es) (on 0 e (omega arith) (omega arith)) (sorted_head name_cmp e.0 (keys_of es) sorted)
      (last-before key es i (sorted_tail name_cmp e.0 (keys_of es) sorted)
      (λ k d ge lt. on (suc k) d (omega arith) (omega (arith, lt)))
      (λ k d ge lt. off (suc k) d (omega (arith, ge)) (omega (arith, lt)))
      (omega (arith, le))))

  key-at : (P : DomainName → Type 0) (es : List (DomainName × X)) (j : ℕ) (d : DomainName × X) → AllByRecursion P (keys_of es) → j < length es → P (slice_index_or es j d).0
  key-at P [] j d all lt = absurd (omega (arith, lt))
  key-at P (e ∷ es) zero d all lt = all.0
  key-at P (e ∷ es) (suc j) d all lt = key-at P es j d all.1 (omega (arith, lt))

  pub passed-once : (key : DomainName) (es : List (DomainName × X)) → IsStrictlySortedBy name_cmp (keys_of es)
      → IsPartitionedBy (λ (e : DomainName × X). is_up_to key e.0) es
  passed-once key [] sorted = λ i j d le lt up. absurd (omega (arith, lt))
  passed-once key (e ∷ es) sorted = λ i j d le lt up. by (passed-once key es (sorted_tail name_cmp e.0 (keys_of es) sorted)) i j d le lt up
    where
      by : IsPartitionedBy (λ (e : DomainName × X). is_up_to key e.0) es → (i j : ℕ) (d : DomainName × X) → i ≤ j → j < length (e ∷ es) → is_up_to key (slice_index_or (e ∷ es) j d).0 ≡ true → is_up_to key (slice_index_or (e ∷ es) i d).0 ≡ true
      by later zero zero d le lt up = up
      by later zero (suc j) d le lt up =
          up-before key e.0 (slice_index_or es j d).0 (key-at (λ k. name_cmp e.0 k ≡ Less) es j d (sorted_head name_cmp e.0 (keys_of es) sorted) (omega (arith, lt))) up
      by later (suc i) zero d le lt up = absurd (omega (arith, le))
      by later (suc i) (suc j) d le lt up = later i j d (omega (arith, le)) (omega (arith, lt)) up

  -- What is before the last entry that isn't after a name is before the name.
  first-before : (key : DomainName) (e : DomainName × X) (es : List (DomainName × X)) (i : ℕ) → AllByRecursion (λ k. name_cmp e.0 k ≡ Less) (keys_of es)
      → is_up_to key e.0 ≡ true → AllWithin (λ (e : DomainName × X). is_up_to key e.0 ≡ true) es 0 i → i ≤ length es
      → (i ≡ 0 → is_eq (name_cmp e.0 key) ≡ false) → name_cmp e.0 key ≡ Less
  first-before key e es zero all up before le apart = le-apart (name_cmp e.0 key) up (apart refl)
  first-before key e [] (suc i) all up before le apart = absurd (omega (arith, le))
  first-before key e (f ∷ es) (suc i) all up before le apart = by (name_cmp f.0 key) refl (before 0 e (omega arith) (omega arith))
    where
      by : (o : Ordering) → name_cmp f.0 key ≡ o → is_le o ≡ true → name_cmp e.0 key ≡ Less
      by Less less h = name_total.trans e.0 f.0 key all.0 less
      by Equal same h = sym (as-equal e.0 f.0 key same) ∙ all.0
      by Greater more h = absurd (true≢false (sym h))

  none-first : (key : DomainName) (e : DomainName × X) (es : List (DomainName × X)) → entry_at (e ∷ es) key ≡ None → (is_eq (name_cmp e.0 key) ≡ false) × (entry_at es key ≡ None)
  none-first key e es none = by (is_eq (name_cmp key e.0)) refl none
    where
      by : (b : Bool) → is_eq (name_cmp key e.0) ≡ b → cond b (Some e.1) (entry_at es key) ≡ None → (is_eq (name_cmp e.0 key) ≡ false) × (entry_at es key ≡ None)
      by true same gone = absurd (cc gone)
      by false apart gone = (eq-swapped e.0 key ∙ apart, gone)

  -- A name without an entry comes after those that aren't after it.
  pub inserted-new : (key : DomainName) (v : X) (es : List (DomainName × X)) (i : ℕ) → IsStrictlySortedBy name_cmp (keys_of es)
      → AllWithin (λ (e : DomainName × X). is_up_to key e.0 ≡ true) es 0 i → AllWithin (λ (e : DomainName × X). is_up_to key e.0 ≡ false) es i (length es)
      → i ≤ length es → entry_at es key ≡ None → take i es ++ (key, v) ∷ drop i es ≡ insert_entry name_cmp es key v
  inserted-new key v [] zero sorted before after le none = refl
  inserted-new key v [] (suc i) sorted before after le none = absurd (omega (arith, le))
  inserted-new key v (e ∷ es) zero sorted before after le none =
      let first : name_cmp key e.0 ≡ Less = name_total.antisymm key e.0 ∙ ap ordering_reverse (not-le (name_cmp e.0 key) (after 0 e (omega arith) (omega arith))) in
      ap (λ (o : Ordering). match_ordering o ((key, v) ∷ e ∷ es) ((e.0, v) ∷ es) (e ∷ insert_entry name_cmp es key v)) (sym first)
  inserted-new key v (e ∷ es) (suc i) sorted before after le none =
      let apart = none-first key e es none in
      let less : name_cmp e.0 key ≡ Less = le-apart (name_cmp e.0 key) (before 0 e (omega arith) (omega arith)) apart.0 in
      let first : name_cmp key e.0 ≡ Greater = name_total.antisymm key e.0 ∙ ap ordering_reverse less in
      ap (λ (l : List (DomainName × X)). e ∷ l)
      (inserted-new key v es i (sorted_tail name_cmp e.0 (keys_of es) sorted)
      (λ k d ge lt. before (suc k) d (omega arith) (omega (arith, lt)))
      (λ k d ge lt. after (suc k) d (omega (arith, ge)) (omega (arith, lt)))
      (omega (arith, le)) apart.1)
      ∙ ap (λ (o : Ordering). match_ordering o ((key, v) ∷ e ∷ es) ((e.0, v) ∷ es) (e ∷ insert_entry name_cmp es key v)) (sym first)

  apart-first : (key : DomainName) (e : DomainName × X) (es : List (DomainName × X)) (i : ℕ) → is_eq (name_cmp (slice_index_or (e ∷ es) (suc i - 1) e).0 key) ≡ false → i ≡ 0 → is_eq (name_cmp e.0 key) ≡ false
  apart-first key e es i apart none =
      let at : suc i - 1 ≡ 0 = omega (arith, none) in
      subst (λ (n : ℕ). is_eq (name_cmp (slice_index_or (e ∷ es) n e).0 key) ≡ false) at apart

  apart-later : (key : DomainName) (e : DomainName × X) (es : List (DomainName × X)) (i : ℕ) (d : DomainName × X) → 0 < i → is_eq (name_cmp (slice_index_or (e ∷ es) (suc i - 1) d).0 key) ≡ false
      → is_eq (name_cmp (slice_index_or es (i - 1) d).0 key) ≡ false
  apart-later key e es zero d some apart = absurd (omega (arith, some))
  apart-later key e es (suc i) d some apart =
      let at : suc (suc i) - 1 ≡ suc i = omega arith in
      let here : is_eq (name_cmp (slice_index_or (e ∷ es) (suc i) d).0 key) ≡ false = subst (λ (n : ℕ). is_eq (name_cmp (slice_index_or (e ∷ es) n d).0 key) ≡ false) at apart in
      let back : i ≡ suc i - 1 = omega arith in
      subst (λ (n : ℕ). is_eq (name_cmp (slice_index_or es n d).0 key) ≡ false) back here

  -- What is before the entry of a name.
  before-found : (key : DomainName) (e : DomainName × X) (es : List (DomainName × X)) (j : ℕ) → IsStrictlySortedBy name_cmp (keys_of (e ∷ es)) → j < length es
      → ((d : DomainName × X) → name_cmp (slice_index_or es j d).0 key ≡ Equal) → name_cmp key e.0 ≡ Greater
  before-found key e es j sorted lt is =
      let less = key-at (λ k. name_cmp e.0 k ≡ Less) es j e (sorted_head name_cmp e.0 (keys_of es) sorted) lt in
      name_total.antisymm key e.0 ∙ ap ordering_reverse (sym (as-equal e.0 (slice_index_or es j e).0 key (is e)) ∙ less)

  -- The entry of a name takes the value.
  pub replaced : (key : DomainName) (v : X) (es : List (DomainName × X)) (i : ℕ) (d : DomainName × X) → IsStrictlySortedBy name_cmp (keys_of es) → i < length es
      → ((d : DomainName × X) → name_cmp (slice_index_or es i d).0 key ≡ Equal) → slice_set es i ((slice_index_or es i d).0, v) ≡ insert_entry name_cmp es key v
  replaced key v [] i d sorted lt is = absurd (omega (arith, lt))
  replaced key v (e ∷ es) zero d sorted lt is =
      let same : name_cmp key e.0 ≡ Equal = name_total.antisymm key e.0 ∙ ap ordering_reverse (is d) in
      ap (λ (o : Ordering). match_ordering o ((key, v) ∷ e ∷ es) ((e.0, v) ∷ es) (e ∷ insert_entry name_cmp es key v)) (sym same)
  replaced key v (e ∷ es) (suc i) d sorted lt is =
      let after : name_cmp key e.0 ≡ Greater = before-found key e es i sorted (omega (arith, lt)) is in
      ap (λ (l : List (DomainName × X)). e ∷ l) (replaced key v es i d (sorted_tail name_cmp e.0 (keys_of es) sorted) (omega (arith, lt)) is)
      ∙ ap (λ (o : Ordering). match_ordering o ((key, v) ∷ e ∷ es) ((e.0, v) ∷ es) (e ∷ insert_entry name_cmp es key v)) (sym after)

  -- No other entry takes the value.
  pub put : (key : DomainName) (v : X) (es : List (DomainName × X)) (i : ℕ) (d : DomainName × X) → IsStrictlySortedBy name_cmp (keys_of es) → i < length es
      → ((d : DomainName × X) → name_cmp (slice_index_or es i d).0 key ≡ Equal)
      → slice_set es i ((slice_index_or es i d).0, v) ≡ set_value (λ other. is_eq (name_cmp key other)) es v
  put key v [] i d sorted lt is = absurd (omega (arith, lt))
  put key v (e ∷ es) zero d sorted lt is =
      let same : is_eq (name_cmp key e.0) ≡ true = eq-swapped key e.0 ∙ ap is_eq (is e) in
      ap (λ (b : Bool). cond b ((e.0, v) ∷ es) (e ∷ set_value (λ other. is_eq (name_cmp key other)) es v)) (sym same)
  put key v (e ∷ es) (suc i) d sorted lt is =
      let after = not-eq (name_cmp key e.0) (before-found key e es i sorted (omega (arith, lt)) is) in
      ap (λ (l : List (DomainName × X)). e ∷ l) (put key v es i d (sorted_tail name_cmp e.0 (keys_of es) sorted) (omega (arith, lt)) is)
      ∙ ap (λ (b : Bool). cond b ((e.0, v) ∷ es) (e ∷ set_value (λ other. is_eq (name_cmp key other)) es v)) (sym after)

  pub kept-unput : (key : DomainName) (v : X) (es : List (DomainName × X)) → entry_at es key ≡ None → set_value (λ other. is_eq (name_cmp key other)) es v ≡ es
  kept-unput key v [] none = refl
  kept-unput key v (e ∷ es) none =
      let apart = none-first key e es none in
      ap (λ (b : Bool). cond b ((e.0, v) ∷ es) (e ∷ set_value (λ other. is_eq (name_cmp key other)) es v)) (eq-swapped key e.0 ∙ apart.0)
      ∙ ap (λ (l : List (DomainName × X)). e ∷ l) (kept-unput key v es apart.1)

  same-keys : (test : DomainName → Bool) (v : X) (es : List (DomainName × X)) → keys_of (set_value test es v) ≡ keys_of es
  same-keys test v [] = refl
  same-keys test v (e ∷ es) = by (test e.0) (same-keys test v es)
    where
      by : (b : Bool) → keys_of (set_value test es v) ≡ keys_of es → keys_of (cond b ((e.0, v) ∷ es) (e ∷ set_value test es v)) ≡ e.0 ∷ keys_of es
      by true later = refl
      by false later = ap (λ (l : List DomainName). e.0 ∷ l) later

  pub put-sorted : (test : DomainName → Bool) (v : X) (es : List (DomainName × X)) → IsStrictlySortedBy name_cmp (keys_of es) → IsStrictlySortedBy name_cmp (keys_of (set_value test es v))
  put-sorted test v es sorted = subst (λ (l : List DomainName). IsStrictlySortedBy name_cmp l) (sym (same-keys test v es)) sorted

  -- The entry of a name is taken out.
  pub removed : (key : DomainName) (es : List (DomainName × X)) (i : ℕ) → IsStrictlySortedBy name_cmp (keys_of es) → i < length es
      → ((d : DomainName × X) → name_cmp (slice_index_or es i d).0 key ≡ Equal) → take i es ++ drop (suc i) es ≡ remove_entry (λ other. is_eq (name_cmp key other)) es
  removed key [] i sorted lt is = absurd (omega (arith, lt))
  removed key (e ∷ es) zero sorted lt is =
      let same : is_eq (name_cmp key e.0) ≡ true = eq-swapped key e.0 ∙ ap is_eq (is e) in
      ap (λ (b : Bool). cond b es (e ∷ remove_entry (λ other. is_eq (name_cmp key other)) es)) (sym same)
  removed key (e ∷ es) (suc i) sorted lt is =
      let after = not-eq (name_cmp key e.0) (before-found key e es i sorted (omega (arith, lt)) is) in
      ap (λ (l : List (DomainName × X)). e ∷ l) (removed key es i (sorted_tail name_cmp e.0 (keys_of es) sorted) (omega (arith, lt)) is)
      ∙ ap (λ (b : Bool). cond b es (e ∷ remove_entry (λ other. is_eq (name_cmp key other)) es)) (sym after)

  -- It is the entry of the name.
  pub found : (key : DomainName) (es : List (DomainName × X)) (i : ℕ) (d : DomainName × X) → IsStrictlySortedBy name_cmp (keys_of es) → i < length es
      → ((d : DomainName × X) → name_cmp (slice_index_or es i d).0 key ≡ Equal) → entry_at es key ≡ Some (slice_index_or es i d).1
  found key [] i d sorted lt is = absurd (omega (arith, lt))
  found key (e ∷ es) zero d sorted lt is =
      let same : is_eq (name_cmp key e.0) ≡ true = eq-swapped key e.0 ∙ ap is_eq (is e) in
      ap (λ (b : Bool). cond b (Some e.1) (entry_at es key)) same
  found key (e ∷ es) (suc i) d sorted lt is =
      let after = not-eq (name_cmp key e.0) (before-found key e es i sorted (omega (arith, lt)) is) in
      ap (λ (b : Bool). cond b (Some e.1) (entry_at es key)) after ∙ found key es i d (sorted_tail name_cmp e.0 (keys_of es) sorted) (omega (arith, lt)) is

  pub kept-without : (key : DomainName) (es : List (DomainName × X)) → entry_at es key ≡ None → remove_entry (λ other. is_eq (name_cmp key other)) es ≡ es
  kept-without key [] none = refl
  kept-without key (e ∷ es) none =
      let apart = none-first key e es none in
      ap (λ (b : Bool). cond b es (e ∷ remove_entry (λ other. is_eq (name_cmp key other)) es)) (eq-swapped key e.0 ∙ apart.0)
      ∙ ap (λ (l : List (DomainName × X)). e ∷ l) (kept-without key es apart.1)

  -- Where the last entry that isn't after a name isn't its own, it has none.
  pub none-found : (key : DomainName) (es : List (DomainName × X)) (i : ℕ) → IsStrictlySortedBy name_cmp (keys_of es) → CountsUpTo key es i
      → (0 < i → (d : DomainName × X) → is_eq (name_cmp (slice_index_or es (i - 1) d).0 key) ≡ false) → entry_at es key ≡ None
  none-found key [] i sorted counts apart = refl
  none-found key (e ∷ es) zero sorted counts apart =
      none-at key key (e ∷ es) (not-after key) counts.after
  none-found key (e ∷ es) (suc i) sorted counts apart =
      let before = λ (k : ℕ) (d : DomainName × X) (ge : 0 ≤ k) (lt : k < i). counts.before (suc k) d (omega arith) (omega (arith, lt)) in
      let less = first-before key e es i (sorted_head name_cmp e.0 (keys_of es) sorted) (counts.before 0 e (omega arith) (omega arith)) before (omega (arith, counts.within))
      (λ none. apart-first key e es i (apart (omega arith) e) none) in
      ap (λ (b : Bool). cond b (Some e.1) (entry_at es key)) (not-eq (name_cmp key e.0) (name_total.antisymm key e.0 ∙ ap ordering_reverse less))
      ∙ none-found key es i (sorted_tail name_cmp e.0 (keys_of es) sorted)
      (record {
        within = omega (arith, counts.within);
        before = before;
        after = λ k d ge lt. counts.after (suc k) d (omega (arith, ge)) (omega (arith, lt));
      })
      (λ some d. apart-later key e es i d some (apart (omega arith) d))

  -- ---- the order is kept
  each-inserted : (P : DomainName → Type 0) (key : DomainName) (v : X) (es : List (DomainName × X)) → AllByRecursion P (keys_of es) → P key → AllByRecursion P (keys_of (insert_entry name_cmp es key v))
  each-inserted P key v [] all new = (new, tt)
  each-inserted P key v (e ∷ es) all new = by (name_cmp key e.0) (each-inserted P key v es all.1 new)
    where
      by : (o : Ordering) → AllByRecursion P (keys_of (insert_entry name_cmp es key v)) → AllByRecursion P (keys_of (match_ordering o ((key, v) ∷ e ∷ es) ((e.0, v) ∷ es) (e ∷ insert_entry name_cmp es key v)))
      by Less later = (new, all)
      by Equal later = all
      by Greater later = (all.0, later)

  each-after : (first key : DomainName) (es : List (DomainName × X)) → name_cmp key first ≡ Less → AllByRecursion (λ k. name_cmp first k ≡ Less) (keys_of es) → AllByRecursion (λ k. name_cmp key k ≡ Less) (keys_of es)
  each-after first key [] less all = tt
  each-after first key (e ∷ es) less all = (name_total.trans key first e.0 less all.0, each-after first key es less all.1)

  pub inserted-sorted : (key : DomainName) (v : X) (es : List (DomainName × X)) → IsStrictlySortedBy name_cmp (keys_of es) → IsStrictlySortedBy name_cmp (keys_of (insert_entry name_cmp es key v))
  unfolding IsStrictlySortedBy
  inserted-sorted key v [] sorted = (tt, tt)
  inserted-sorted key v (e ∷ es) sorted = by (name_cmp key e.0) refl (inserted-sorted key v es sorted.1)
    where
      by : (o : Ordering) → name_cmp key e.0 ≡ o → IsStrictlySortedBy name_cmp (keys_of (insert_entry name_cmp es key v))
          → IsStrictlySortedBy name_cmp (keys_of (match_ordering o ((key, v) ∷ e ∷ es) ((e.0, v) ∷ es) (e ∷ insert_entry name_cmp es key v)))
      by Less less later = ((less, each-after e.0 key es less sorted.0), sorted)
      by Equal same later = sorted
      by Greater more later =
          (each-inserted (λ k. name_cmp e.0 k ≡ Less) key v es sorted.0 (name_total.antisymm e.0 key ∙ ap ordering_reverse more), later)

  each-kept : (P : DomainName → Type 0) (test : DomainName → Bool) (es : List (DomainName × X)) → AllByRecursion P (keys_of es) → AllByRecursion P (keys_of (remove_entry test es))
  each-kept P test [] all = tt
  each-kept P test (e ∷ es) all = by (test e.0) (each-kept P test es all.1)
    where
      by : (b : Bool) → AllByRecursion P (keys_of (remove_entry test es)) → AllByRecursion P (keys_of (cond b es (e ∷ remove_entry test es)))
      by true later = all.1
      by false later = (all.0, later)

  pub removed-sorted : (test : DomainName → Bool) (es : List (DomainName × X)) → IsStrictlySortedBy name_cmp (keys_of es) → IsStrictlySortedBy name_cmp (keys_of (remove_entry test es))
  unfolding IsStrictlySortedBy
  removed-sorted test [] sorted = tt
  removed-sorted test (e ∷ es) sorted = by (test e.0) (removed-sorted test es sorted.1)
    where
      by : (b : Bool) → IsStrictlySortedBy name_cmp (keys_of (remove_entry test es)) → IsStrictlySortedBy name_cmp (keys_of (cond b es (e ∷ remove_entry test es)))
      by true later = sorted.1
      by false later = (each-kept (λ k. name_cmp e.0 k ≡ Less) test es sorted.0, later)

pub none-sorted : {X : Type 0} (es : List (DomainName × X)) → es ≡ [] → IsStrictlySortedBy name_cmp (keys_of es)
unfolding IsStrictlySortedBy
none-sorted [] none = tt
none-sorted (e ∷ es) none = absurd (cc none)

-- What took an entry, or was refused it, is sorted.
pub either-sorted : {X T E : Type 0} (r : Result T E) (es new taken : List (DomainName × X)) → OnOk r (new ≡ taken) → OnErr r (new ≡ es)
    → IsStrictlySortedBy name_cmp (keys_of es) → IsStrictlySortedBy name_cmp (keys_of taken) → IsStrictlySortedBy name_cmp (keys_of new)
either-sorted (Ok t) es new taken ok err before after = subst (λ (l : List _). IsStrictlySortedBy name_cmp (keys_of l)) (sym ok) after
either-sorted (Err e) es new taken ok err before after = subst (λ (l : List _). IsStrictlySortedBy name_cmp (keys_of l)) (sym err) before

-- What is at an index that is there doesn't depend on the default.
pub index-any : {X : Type 0} (xs : List X) (k : ℕ) (d e : X) → k < length xs → slice_index_or xs k d ≡ slice_index_or xs k e
index-any [] k d e lt = absurd (omega (arith, lt))
index-any (x ∷ xs) zero d e lt = refl
index-any (x ∷ xs) (suc k) d e lt = index-any xs k d e (omega (arith, lt))
