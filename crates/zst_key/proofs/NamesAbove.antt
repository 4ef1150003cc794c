-- The nearest of a name and the names above it at which a map has an entry.
use Rattle.std.proofs.Common.{◌≡◌, ℕ, ◌+◌, ◌-◌, ◌<◌, ◌≤◌, Bool, true, false, ◌&&◌, List, [], ◌∷◌, drop, length, zero, suc, refl, ap, sym, subst, ◌∙◌, arith, rules, inl, inr}
use Rattle.std.specs.Prelude.{Option, Some, None, IsSome, is_some, option_map}
use Rattle.std.specs.Bool.{beq}
use Rattle.std.specs.Cmp.{IsTotalOrder}
use Rattle.std.specs.Cmp.Lexicographic.{pointwise}
use Rattle.std.specs.Cmp.Rules.{comparing}
use Rattle.std.specs.Ordering.{is_eq, is_gt, is_lt, is_le, ordering_reverse}
use Rattle.std.specs.declared.cmp.Ordering.{Ordering}
use Rattle.std.specs.declared.cmp.Ordering.TheVariants.{Less, Equal, Greater}
use Rattle.std.specs.Str.{str_to_ascii_lowercase}
use Rattle.std.proofs.lemmas.Bool.{cases_lt, true≢false, and_parts}
use Rattle.std.proofs.lemmas.List.{drop-map, length-drop, nil_from_length}
use Rattle.std.proofs.Math.Seq.{drop-length}
use Rattle.dnw_name.specs.dnw_label.Label.{label_eq}
use Rattle.dnw_name.specs.DomainName.{DomainName, domain_name, is_at_or_below, lowercase_name, name_cmp, name_eq}
use Rattle.dnw_name.specs.NameOrderLaws.{name_eq-by_cmp}
use Rattle.dnw_name.proofs.Fronts.{ancestor-first, descendants-together}
use Rattle.zst_key.specs.Ancestors.{up, or_else, nearest_from, nearest_in, GoesToShared, IsLastUpTo}
use Rattle.zst_key.proofs.Climbing.{up-up}
use Rattle.zst_key.proofs.KeyLemmas.{eq-below, one-lower}

pub name_total : IsTotalOrder name_cmp
name_total = Prim.search (comparing, rules) depth 12

pub le-not_gt : (o : Ordering) → is_le o ≡ true → is_gt o ≡ false
le-not_gt Less e = refl
le-not_gt Equal e = refl
le-not_gt Greater e = absurd (true≢false (sym e))

not_gt-le : (o : Ordering) → is_gt o ≡ false → is_le o ≡ true
not_gt-le Less e = refl
not_gt-le Equal e = refl
not_gt-le Greater e = absurd (true≢false e)

reversed : (o : Ordering) → is_lt o ≡ false → is_le (ordering_reverse o) ≡ true
reversed Less e = absurd (true≢false e)
reversed Equal e = refl
reversed Greater e = refl

pub not_behind : (a b : DomainName) → is_lt (name_cmp a b) ≡ false → is_le (name_cmp b a) ≡ true
not_behind a b e = ap is_le (name_total.antisymm b a) ∙ reversed (name_cmp a b) e

-- ---- names above a name
label-same : (xs : List ℕ) → label_eq xs xs ≡ true
label-same xs = search (comparing, rules) depth 12

labels-same : (ls : List (List ℕ)) → pointwise label_eq ls ls ≡ true
labels-same [] = refl
labels-same (l ∷ ls) = rw (label-same l) (labels-same ls)

end_of : (ls : List (List ℕ)) (n : ℕ) → drop (length ls - length (drop n ls)) ls ≡ drop n ls
end_of [] zero = refl
end_of [] (suc n) = refl
end_of (l ∷ ls) n = elim (cases_lt n (length (l ∷ ls))) [
  | inl within ↦ ap (λ (m : ℕ). drop m (l ∷ ls)) (omega (arith, within, length-drop n (l ∷ ls)))
  | inr past ↦
      let none : length (drop n (l ∷ ls)) ≡ 0 = omega (arith, past, length-drop n (l ∷ ls)) in
      let all : length (l ∷ ls) - length (drop n (l ∷ ls)) ≡ length (l ∷ ls) = omega (arith, none) in
      ap (λ (m : ℕ). drop m (l ∷ ls)) all ∙ drop-length (l ∷ ls) ∙ sym (nil_from_length (drop n (l ∷ ls)) none)
]

pub below-up : (name : DomainName) (n : ℕ) → is_at_or_below name (up name n) ≡ true
below-up name n = ap (pointwise label_eq (drop n name.labels)) (end_of name.labels n) ∙ labels-same (drop n name.labels)

pointwise-long : (xs ys : List (List ℕ)) → pointwise label_eq xs ys ≡ true → length xs ≡ length ys
pointwise-long [] [] e = refl
pointwise-long [] (y ∷ ys) e = absurd (true≢false (sym e))
pointwise-long (x ∷ xs) [] e = absurd (true≢false (sym e))
pointwise-long (x ∷ xs) (y ∷ ys) e = ap suc (pointwise-long xs ys (and_parts (label_eq x y) (pointwise label_eq xs ys) e).1)

pub above-shorter : (name other : DomainName) → is_at_or_below name other ≡ true → length other.labels ≤ length name.labels
above-shorter name other e =
    let k = length name.labels - length other.labels in
    let long = pointwise-long other.labels (drop k name.labels) e in
    omega (arith, long, length-drop k name.labels)

pub beq-itself : (f : Bool) → beq f f ≡ true
beq-itself true = refl
beq-itself false = refl

pub beq-same : (f g : Bool) → beq f g ≡ true → f ≡ g
beq-same true true e = refl
beq-same false false e = refl
beq-same true false e = absurd (true≢false (sym e))
beq-same false true e = absurd (true≢false (sym e))

pub up-lower : (name : DomainName) (n : ℕ) → lowercase_name name ≡ name → lowercase_name (up name n) ≡ up name n
up-lower name n low = ap (domain_name name.fqdn) (sym (drop-map str_to_ascii_lowercase n name.labels) ∙ ap (λ (m : DomainName). drop n m.labels) low)

-- A name in lower case that another one lies below is one of those above it.
pub is-above : (name other : DomainName) → lowercase_name name ≡ name → lowercase_name other ≡ other → (beq name.fqdn other.fqdn && is_at_or_below name other) ≡ true
    → other ≡ up name (length name.labels - length other.labels)
is-above name other low also e =
    let k = length name.labels - length other.labels in
    let parts = and_parts (beq name.fqdn other.fqdn) (is_at_or_below name other) e in
    let flags : beq other.fqdn name.fqdn ≡ true = ap (beq other.fqdn) (beq-same name.fqdn other.fqdn parts.0) ∙ beq-itself other.fqdn in
    let eq : name_eq other (up name k) ≡ true = rw flags parts.1 in
    sym also ∙ one-lower other (up name k) eq ∙ up-lower name k low

-- ---- going up
drop-none : (ls : List (List ℕ)) (n : ℕ) → length ls ≤ length (drop n ls) → drop n ls ≡ ls
drop-none ls zero long = refl
drop-none [] (suc n) long = refl
drop-none (l ∷ ls) (suc n) long = absurd (omega (arith, long, length-drop n ls))

both_le : (o : Ordering) → is_le o ≡ true → is_le (ordering_reverse o) ≡ true → is_eq o ≡ true
both_le Less e f = absurd (true≢false (sym f))
both_le Equal e f = refl
both_le Greater e f = absurd (true≢false (sym e))

-- A name at or below another one, and not behind it, equals it.
level_with : (above p : DomainName) → above.fqdn ≡ p.fqdn → is_gt (name_cmp p above) ≡ false → is_at_or_below p above ≡ true → is_at_or_below above p ≡ true
level_with above p flags last below =
    let first : is_le (name_cmp above p) ≡ true = ancestor-first p above below flags in
    let eq : is_eq (name_cmp p above) ≡ true = both_le (name_cmp p above) (not_gt-le (name_cmp p above) last) (ap is_le (sym (name_total.antisymm above p)) ∙ first) in
    eq-below p above (name_eq-by_cmp p above ∙ eq)

-- Where the last entry up to a name is none above it, what both share is shorter.
pub goes-up : (above p now : DomainName) → beq above.fqdn p.fqdn ≡ true → is_gt (name_cmp p above) ≡ false → (beq above.fqdn p.fqdn && is_at_or_below above p) ≡ false
    → GoesToShared above p now → length now.labels < length above.labels
goes-up above p now flags last off goes = elim (cases_lt (length now.labels) (length above.labels)) [
  | inl less ↦ less
  | inr long ↦
      let long_drop : length above.labels ≤ length (drop goes.levels above.labels) = subst (λ (n : DomainName). length above.labels ≤ length n.labels) goes.above long in
      let stays : now ≡ above = goes.above ∙ ap (domain_name above.fqdn) (drop-none above.labels goes.levels long_drop) in
      let below : is_at_or_below p above ≡ true = ap (is_at_or_below p) (sym stays) ∙ goes.shared in
      let on : is_at_or_below above p ≡ true = level_with above p (beq-same above.fqdn p.fqdn flags) last below in
      absurd (true≢false (sym (rw flags on) ∙ off))
]

-- ---- what stands up to a name
module _ {X : Type 0} (at : DomainName → Option X) where
  pub nearest-at : (fqdn : Bool) (labels : List (List ℕ)) (levels : ℕ) (x : X) → at (domain_name fqdn (drop levels labels)) ≡ Some x
      → ((n : ℕ) → n < levels → at (domain_name fqdn (drop n labels)) ≡ None)
      → nearest_from at fqdn labels ≡ Some (domain_name fqdn (drop levels labels), x)
  nearest-at fqdn [] zero x there passed = ap (option_map (λ y. (domain_name fqdn [], y))) there
  nearest-at fqdn [] (suc levels) x there passed = let h : None ≡ Some x = sym (passed 0 (omega arith)) ∙ there in absurd (cc)
  nearest-at fqdn (l ∷ ls) zero x there passed =
      ap (λ (o : Option X). or_else (option_map (λ y. (domain_name fqdn (l ∷ ls), y)) o) (nearest_from at fqdn ls)) there
  nearest-at fqdn (l ∷ ls) (suc levels) x there passed =
      ap (λ (o : Option X). or_else (option_map (λ y. (domain_name fqdn (l ∷ ls), y)) o) (nearest_from at fqdn ls)) (passed 0 (omega arith))
      ∙ nearest-at fqdn ls levels x there (λ n less. passed (suc n) (omega (arith, less)))

  -- What a name has is the nearest.
  pub nearest-here : (name : DomainName) (x : X) → at name ≡ Some x → nearest_in at name ≡ Some (name, x)
  nearest-here name x there = nearest-at name.fqdn name.labels 0 x there (λ n less. absurd (omega (arith, less)))

  pub nearest-none : (fqdn : Bool) (labels : List (List ℕ)) → ((n : ℕ) → at (domain_name fqdn (drop n labels)) ≡ None) → nearest_from at fqdn labels ≡ None
  nearest-none fqdn [] none = ap (option_map (λ y. (domain_name fqdn [], y))) (none 0)
  nearest-none fqdn (l ∷ ls) none =
      ap (λ (o : Option X). or_else (option_map (λ y. (domain_name fqdn (l ∷ ls), y)) o) (nearest_from at fqdn ls)) (none 0)
      ∙ nearest-none fqdn ls (λ n. none (suc n))

  -- Up to this name, none of those above the first one has an entry.
  pub record HasPassed (name above : DomainName) : Type 0 where
    pub levels : ℕ
    pub is : above ≡ up name levels
    pub passed : (n : ℕ) → n < levels → at (up name n) ≡ None

  pub passed-none : (name : DomainName) → HasPassed name name
  passed-none name = record { levels = 0; is = refl; passed = λ n less. absurd (omega (arith, less)) }

  -- Entries above a name stand at or before this one, and it doesn't stand behind the name.
  pub record IsLastAbove (above p : DomainName) (x : X) : Type 0 where
    pub up_to : is_gt (name_cmp p above) ≡ false
    pub there : at p ≡ Some x
    pub last : (n : ℕ) → IsSome (at (up above n)) → is_le (name_cmp (up above n) p) ≡ true

  pub last-above : (above p : DomainName) (x : X) → IsLastUpTo at above (Some (p, x)) → IsLastAbove above p x
  last-above above p x last =
      record {
        up_to = last.0;
        there = last.1;
        last = λ n some. not_behind p (up above n) (last.2 (up above n) (le-not_gt (name_cmp (up above n) above) (ancestor-first above (up above n) (below-up above n) refl)) some);
      }

  together : (above p : DomainName) (x : X) → IsLastAbove above p x → (n : ℕ) → IsSome (at (up above n)) → is_at_or_below p (up above n) ≡ true
  together above p x last n some =
      descendants-together above (up above n) (below-up above n) refl p (last.last n some) (not_gt-le (name_cmp p above) last.up_to)

  none-by : (o : Option X) → (IsSome o → ⊥) → o ≡ None
  none-by None never = refl
  none-by (Some x) never = absurd (never refl)

  none-some : (o : Option X) → IsSome o → o ≡ None → ⊥
  none-some o some e = true≢false (sym some ∙ ap is_some e)

  at-level : (name above : DomainName) (levels n : ℕ) → above ≡ up name levels → levels ≤ n → up above (n - levels) ≡ up name n
  at-level name above levels n is past =
      ap (λ (m : DomainName). up m (n - levels)) is ∙ up-up name levels (n - levels) ∙ ap (up name) (omega (arith, past))

  -- The last entry is one above the name: it is the nearest.
  pub found-last : (name above p : DomainName) (x : X) → HasPassed name above → IsLastAbove above p x → lowercase_name above ≡ above → lowercase_name p ≡ p
      → (beq above.fqdn p.fqdn && is_at_or_below above p) ≡ true → nearest_in at name ≡ Some (p, x)
  found-last name above p x has last low also below =
      let k = length above.labels - length p.labels in
      let owner : p ≡ up above k = is-above above p low also below in
      let shorter = above-shorter above p (and_parts (beq above.fqdn p.fqdn) (is_at_or_below above p) below).1 in
      let place : p ≡ up name (has.levels + k) = owner ∙ ap (λ (m : DomainName). up m k) has.is ∙ up-up name has.levels k in
      ap (λ (o : Option (DomainName × X)). o)
      (nearest-at name.fqdn name.labels (has.levels + k) x (ap at (sym place) ∙ last.there)
      (λ n less. elim (cases_lt n has.levels) [
        | inl early ↦ has.passed n early
        | inr late ↦ let j = n - has.levels in
            ap at (sym (at-level name above has.levels n has.is late))
            ∙ none-by (at (up above j)) (λ some.
            absurd (omega (arith, less, late, shorter, length-drop j above.labels, above-shorter p (up above j) (together above p x last j some))))
      ]))
      ∙ ap (λ (m : DomainName). Some (m, x)) (sym place)

  -- The last entry is none above the name: so none is up to what both share.
  pub passed-more : (name above p now : DomainName) (x : X) → HasPassed name above → IsLastAbove above p x → GoesToShared above p now → HasPassed name now
  passed-more name above p now x has last goes =
      record {
        levels = has.levels + goes.levels;
        is = goes.above ∙ ap (λ (m : DomainName). up m goes.levels) has.is ∙ up-up name has.levels goes.levels;
        passed = λ n less. elim (cases_lt n has.levels) [
          | inl early ↦ has.passed n early
          | inr late ↦ let j = n - has.levels in
              ap at (sym (at-level name above has.levels n has.is late))
              ∙ none-by (at (up above j)) (λ some. true≢false (sym (together above p x last j some) ∙ goes.nearest j (omega (arith, less, late))))
        ];
      }

  from-level : (fqdn : Bool) (labels : List (List ℕ)) (levels : ℕ) → ((n : ℕ) → n < levels → at (domain_name fqdn (drop n labels)) ≡ None)
      → nearest_from at fqdn labels ≡ nearest_from at fqdn (drop levels labels)
  from-level fqdn labels zero passed = refl
  from-level fqdn [] (suc levels) passed = refl
  from-level fqdn (l ∷ ls) (suc levels) passed =
      ap (λ (o : Option X). or_else (option_map (λ y. (domain_name fqdn (l ∷ ls), y)) o) (nearest_from at fqdn ls)) (passed 0 (omega arith))
      ∙ from-level fqdn ls levels (λ n less. passed (suc n) (omega (arith, less)))

  -- What is nearest is so from there on.
  pub nearest-passed : (name above : DomainName) → HasPassed name above → nearest_in at above ≡ nearest_in at name
  nearest-passed name above has = ap (nearest_in at) has.is ∙ sym (from-level name.fqdn name.labels has.levels has.passed)

  pub none-behind : (name above : DomainName) → HasPassed name above → ((j : ℕ) → IsSome (at (up above j)) → ⊥) → nearest_in at name ≡ None
  none-behind name above has never =
      nearest-none name.fqdn name.labels
      (λ n. elim (cases_lt n has.levels) [
        | inl early ↦ has.passed n early
        | inr late ↦ ap at (sym (at-level name above has.levels n has.is late)) ∙ none-by (at (up above (n - has.levels))) (never (n - has.levels))
      ])

  -- No entry is up to the name.
  pub found-none : (name above : DomainName) → HasPassed name above → IsLastUpTo at above None → nearest_in at name ≡ None
  found-none name above has last =
      none-behind name above has
      (λ j some. none-some (at (up above j)) some (last (up above j) (le-not_gt (name_cmp (up above j) above) (ancestor-first above (up above j) (below-up above j) refl))))

  flags_between : (above p : DomainName) (f : Bool) → f ≡ above.fqdn → beq above.fqdn p.fqdn ≡ false → (n : ℕ) → is_le (name_cmp (up above n) p) ≡ true → is_le (name_cmp p above) ≡ true → ⊥
  flags_between above p f e differ n low high = by above.fqdn p.fqdn differ low high
    where
      by : (f g : Bool) → beq f g ≡ false → is_le (name_cmp (domain_name f (drop n above.labels)) (domain_name g p.labels)) ≡ true → is_le (name_cmp (domain_name g p.labels) (domain_name f above.labels)) ≡ true → ⊥
      by true true d l h = true≢false d
      by false false d l h = true≢false d
      by true false d l h = true≢false (sym l)
      by false true d l h = true≢false (sym h)

  -- The last entry up to the name has another flag: so do all of them.
  pub found-apart : (name above p : DomainName) (x : X) → HasPassed name above → IsLastAbove above p x → beq above.fqdn p.fqdn ≡ false → nearest_in at name ≡ None
  found-apart name above p x has last differ =
      none-behind name above has
      (λ j some. flags_between above p above.fqdn refl differ j (last.last j some) (not_gt-le (name_cmp p above) last.up_to))

-- ---- an entry at the name itself
up_to-equal : (o p : Ordering) → o ≡ p → is_gt (ordering_reverse p) ≡ false → is_lt o ≡ false
up_to-equal Less p e up_to = let less : p ≡ Less = sym e in absurd (true≢false (ap (λ (q : Ordering). is_gt (ordering_reverse q)) (sym less) ∙ up_to))
up_to-equal Equal p e up_to = refl
up_to-equal Greater p e up_to = refl

not_gt-equal : (o : Ordering) → is_eq o ≡ true → is_gt o ≡ false
not_gt-equal Less e = absurd (true≢false (sym e))
not_gt-equal Equal e = refl
not_gt-equal Greater e = absurd (true≢false (sym e))

pub is-equal : (o : Ordering) → is_eq o ≡ true → o ≡ Equal
is-equal Less e = absurd (true≢false (sym e))
is-equal Equal e = refl
is-equal Greater e = absurd (true≢false (sym e))

-- An entry at the name itself is the last one up to it.
pub last-itself : {X : Type 0} (at : DomainName → Option X) (owner name : DomainName) (x : X) → name_eq owner name ≡ true → at owner ≡ Some x → IsLastUpTo at name (Some (owner, x))
last-itself at owner name x same there =
    let level : is_eq (name_cmp owner name) ≡ true = sym (name_eq-by_cmp owner name) ∙ same in (
      not_gt-equal (name_cmp owner name) level,
      there,
      λ other up_to some. up_to-equal (name_cmp owner other) (name_cmp name other) (name_total.congr owner name other (is-equal (name_cmp owner name) level))
          (ap is_gt (sym (name_total.antisymm other name)) ∙ up_to),
    )
