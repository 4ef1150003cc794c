-- The longest of prefixes.
use Rattle.std.proofs.Common.{ℕ, ◌≡◌, ◌≤◌, ◌<◌, ◌/◌, ◌-◌, ◌^◌, ◌⊎◌, inl, inr, Bool, true, false, List, [], ◌∷◌, map, All, arith, refl, sym, ap, ◌∙◌}
use Rattle.std.specs.Prelude.{max, filter, Some, None, ◌==◌}
use Rattle.std.specs.List.{fold, reduce, list_any}
use Rattle.std.specs.Ordering.{is_lt}
use Rattle.std.specs.declared.cmp.Ordering.TheVariants.{Less}
use Rattle.std.specs.BTreeMap.{is_at}
use Rattle.std.proofs.lemmas.Bool.{cases_lt, eqb-true}
use Rattle.std.proofs.lemmas.Grind.{common_steps}
use Rattle.std.proofs.lemmas.List.Elements.{All-head, All-tail, All-nil, All-cons}
use Rattle.zsv_access.specs.declared.prefix_set.Prefix.{Prefix}
use Rattle.zsv_access.specs.Prefixes.{begins_with, has_prefix, longest, prefix_of, prefix_cmp}

any-cases : (x m : ℕ) (xs : List ℕ) → list_any (λ y. y == m) (x ∷ xs) ≡ true → (x ≡ m) ⊎ (list_any (λ y. y == m) xs ≡ true)
any-cases x m xs h = grind (arith, common_steps)

-- Of numbers up to m, one of which is m, m is the greatest.
fold_max : (xs : List ℕ) (a m : ℕ) → a ≤ m → All (λ x. x ≤ m) xs → (a ≡ m) ⊎ (list_any (λ x. x == m) xs ≡ true) → fold max a xs ≡ m
fold_max [] a m small all (inl e) = e
fold_max [] a m small all (inr nowhere) = absurd (cc)
fold_max (x ∷ xs) a m small all reached =
    let first : x ≤ m = All-head (λ y. y ≤ m) x xs all in
    fold_max xs (max a x) m (omega arith) (All-tail (λ y. y ≤ m) x xs all) (more first reached)
  where
    more : x ≤ m → (a ≡ m) ⊎ (list_any (λ x. x == m) (x ∷ xs) ≡ true) → (max a x ≡ m) ⊎ (list_any (λ x. x == m) xs ≡ true)
    more first (inl e) = inl (omega arith)
    more first (inr any) = by_place (any-cases x m xs any)
      where
        by_place : (x ≡ m) ⊎ (list_any (λ x. x == m) xs ≡ true) → (max a x ≡ m) ⊎ (list_any (λ x. x == m) xs ≡ true)
        by_place (inl e) = inl (omega arith)
        by_place (inr there) = inr there

reduce_max : (xs : List ℕ) (m : ℕ) → All (λ x. x ≤ m) xs → list_any (λ x. x == m) xs ≡ true → reduce max xs ≡ Some m
reduce_max [] m all reached = absurd (cc)
reduce_max (x ∷ xs) m all reached = ap Some (fold_max xs x m (All-head (λ y. y ≤ m) x xs all) (All-tail (λ y. y ≤ m) x xs all) (any-cases x m xs reached))

pub has-itself : (p : Prefix) (ps : List Prefix) → has_prefix (p ∷ ps) p ≡ true
has-itself p ps = grind (arith, common_steps)

pub has-more : (q p : Prefix) (ps : List Prefix) → has_prefix ps q ≡ true → has_prefix (p ∷ ps) q ≡ true
has-more q p ps h = grind (arith, common_steps)

-- A prefix that stands not before another is at least as long.
pub not-shorter : (p q : Prefix) → is_lt (prefix_cmp p q) ≡ false → q.len ≤ p.len
not-shorter p q h = grind (arith, common_steps)

-- A shorter prefix stands before the others of a length.
pub shorter-less : (p : Prefix) (len bits : ℕ) → p.len < len → prefix_cmp p (record { len = len; bits = bits }) ≡ Less
shorter-less p len bits h = grind (arith, common_steps)

-- A prefix with which an address begins is its prefix of that length.
pub is-prefix : (width addr : ℕ) (p : Prefix) → begins_with width addr p ≡ true → p ≡ prefix_of width addr p.len
is-prefix width addr p h =
    let bits : addr / 2 ^ (width - p.len) ≡ p.bits = eqb-true (addr / 2 ^ (width - p.len)) p.bits h in
    let same : ℕ → Prefix = λ b. record { len = p.len; bits = b } in
    ap same (sym bits)

begins : (width addr : ℕ) (p : Prefix) → addr / 2 ^ (width - p.len) ≡ p.bits → begins_with width addr p ≡ true
begins width addr p e = grind (arith, common_steps)

-- The query finds a prefix that is equal to it.
pub at-same : (p q : Prefix) → is_at (prefix_cmp p) q ≡ true → (p.len ≡ q.len) × (p.bits ≡ q.bits)
at-same p q h = grind (arith, common_steps)

module _ (width addr : ℕ) where
  abbrev lens : List Prefix → List ℕ
  lens ps = map (λ prefix. prefix.len) (filter (begins_with width addr) ps)

  pub longest-none : (ps : List Prefix) → ((q : Prefix) → has_prefix ps q ≡ true → begins_with width addr q ≡ true → ⊥) → longest width addr ps ≡ None
  longest-none [] none = refl
  longest-none (p ∷ ps) none = by_first (begins_with width addr p) refl (longest-none ps (λ q h. none q (has-more q p ps h)))
    where
      by_first : (b : Bool) → begins_with width addr p ≡ b → longest width addr ps ≡ None → longest width addr (p ∷ ps) ≡ None
      by_first true e rest = absurd (none p (has-itself p ps) e)
      by_first false e rest = rw e rest

  lens-all : (m : ℕ) (ps : List Prefix) → ((q : Prefix) → has_prefix ps q ≡ true → begins_with width addr q ≡ true → q.len ≤ m) → All (λ x. x ≤ m) (lens ps)
  lens-all m [] all = All-nil (λ x. x ≤ m)
  lens-all m (p ∷ ps) all = by_first (begins_with width addr p) refl (lens-all m ps (λ q h. all q (has-more q p ps h)))
    where
      by_first : (b : Bool) → begins_with width addr p ≡ b → All (λ x. x ≤ m) (lens ps) → All (λ x. x ≤ m) (lens (p ∷ ps))
      by_first true e rest = rw e (All-cons (λ x. x ≤ m) p.len (lens ps) (all p (has-itself p ps) e) rest)
      by_first false e rest = rw e rest

  lens-any : (len : ℕ) (ps : List Prefix) → has_prefix ps (prefix_of width addr len) ≡ true → list_any (λ x. x == len) (lens ps) ≡ true
  lens-any len [] here = absurd (cc)
  lens-any len (p ∷ ps) here = by_first (begins_with width addr p) refl (is_at (prefix_cmp (prefix_of width addr len)) p) refl (lens-any len ps)
    where
      by_first : (b : Bool) → begins_with width addr p ≡ b → (found : Bool) → is_at (prefix_cmp (prefix_of width addr len)) p ≡ found
          → (has_prefix ps (prefix_of width addr len) ≡ true → list_any (λ x. x == len) (lens ps) ≡ true)
          → list_any (λ x. x == len) (lens (p ∷ ps)) ≡ true
      by_first true e true at rest =
          let len_is : len ≡ p.len = (at-same (prefix_of width addr len) p at).0 in
          let one : list_any (λ x. x == len) (p.len ∷ lens ps) ≡ true = grind (arith, common_steps) in
          rw e one
      by_first true e false at rest =
          let more : list_any (λ x. x == len) (p.len ∷ lens ps) ≡ true = grind (arith, common_steps, rest (rw at at here)) in
          rw e more
      by_first false e true at rest =
          let same = at-same (prefix_of width addr len) p at in
          absurd (cc (e, begins width addr p (ap (λ n. addr / 2 ^ (width - n)) (sym same.0) ∙ same.1)))
      by_first false e false at rest = rw e (rest (rw at at here))

  -- A prefix that is there, where no longer one begins the address, is the longest.
  pub longest-here : (len : ℕ) (ps : List Prefix) → has_prefix ps (prefix_of width addr len) ≡ true
      → ((q : Prefix) → has_prefix ps q ≡ true → begins_with width addr q ≡ true → q.len ≤ len) → longest width addr ps ≡ Some len
  longest-here len ps here all = reduce_max (lens ps) len (lens-all len ps all) (lens-any len ps here)

-- Where an address's prefix of a length isn't there, those with which it begins are shorter.
pub begin-shorter : (width addr len : ℕ) (ps : List Prefix) → has_prefix ps (prefix_of width addr len) ≡ false
    → ((q : Prefix) → has_prefix ps q ≡ true → begins_with width addr q ≡ true → q.len ≤ len)
    → (q : Prefix) → has_prefix ps q ≡ true → begins_with width addr q ≡ true → q.len < len
begin-shorter width addr len ps missing all q there begin = by_place (cases_lt q.len len)
  where
    by_place : (q.len < len) ⊎ (len ≤ q.len) → q.len < len
    by_place (inl shorter) = shorter
    by_place (inr long) =
        let same : q.len ≡ len = omega (arith, all q there begin) in
        let it : has_prefix ps q ≡ has_prefix ps (prefix_of width addr len) =
        ap (has_prefix ps) (is-prefix width addr q begin ∙ ap (prefix_of width addr) same) in
        absurd (cc (it, there, missing))
