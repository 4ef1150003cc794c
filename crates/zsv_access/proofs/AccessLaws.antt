-- A network's addresses are those that begin with its prefix, and the longest of prefixes is that of
-- the ones which were added, in whatever order and however often.
use Rattle.std.proofs.Common.{ℕ, ◌≡◌, ◌≤◌, ◌<◌, ◌⊎◌, inl, inr, Bool, true, false, ◌||◌, List, [], ◌∷◌, arith, refl, ap, sym, subst, ◌∙◌}
use Rattle.std.specs.Prelude.{Some}
use Rattle.std.specs.Net.Addr.{ipv4_bits, ipv6_bits}
use Rattle.std.specs.Ordering.{is_eq}
use Rattle.std.specs.BTreeMap.{is_at}
use Rattle.std.specs.declared.cmp.Ordering.{Ordering}
use Rattle.std.specs.declared.cmp.Ordering.TheVariants.{Less, Equal, Greater}
use Rattle.std.specs.declared.net.ip_addr.IpAddr.TheVariants.{V4, V6}
use Rattle.std.specs.declared.net.ipv4_addr.Ipv4Addr.{Ipv4Addr}
use Rattle.std.specs.declared.net.ipv6_addr.Ipv6Addr.{Ipv6Addr}
use Rattle.std.proofs.lemmas.Bool.{cases_lt}
use Rattle.dnw_net.specs.Networks.{in_network}
use Rattle.zsv_access.specs.Access.{network_prefix}
use Rattle.zsv_access.specs.Prefixes.{begins_with, has_prefix, longest, prefix_cmp, with_prefix}
use Rattle.zsv_access.specs.declared.prefix_set.Prefix.{Prefix}
use Rattle.zsv_access.proofs.PrefixLemmas.{at-same, has-itself, has-more, is-prefix, longest-here, longest-none}

pub begins-in_network_v4 : (net ip : Ipv4Addr) (len : ℕ)
    → begins_with 32 (ipv4_bits ip) (network_prefix (V4 net) len) ≡ in_network (V4 net) len (V4 ip)
begins-in_network_v4 net ip len = refl

pub begins-in_network_v6 : (net ip : Ipv6Addr) (len : ℕ)
    → begins_with 128 (ipv6_bits ip) (network_prefix (V6 net) len) ≡ in_network (V6 net) len (V6 ip)
begins-in_network_v6 net ip len = refl

-- A query finds the prefix that it is.
found-is : (p q : Prefix) → is_at (prefix_cmp p) q ≡ true → p ≡ q
found-is p q found =
    let same = at-same p q found in
    let by_len : ℕ → Prefix = λ n. record { len = n; bits = p.bits } in
    let by_bits : ℕ → Prefix = λ n. record { len = q.len; bits = n } in
    ap by_len same.0 ∙ ap by_bits same.1

has-cases : (q p : Prefix) (ps : List Prefix) → has_prefix (p ∷ ps) q ≡ true → (q ≡ p) ⊎ (has_prefix ps q ≡ true)
has-cases q p ps has = by_first (is_at (prefix_cmp q) p) refl
  where
    by_first : (b : Bool) → is_at (prefix_cmp q) p ≡ b → (q ≡ p) ⊎ (has_prefix ps q ≡ true)
    by_first true e = inl (found-is q p e)
    by_first false e = inr (rw e at has)

or-comm : (a b c : Bool) → (a || (b || c)) ≡ (b || (a || c))
or-comm true true c = refl
or-comm true false c = refl
or-comm false true c = refl
or-comm false false c = refl

or-twice : (a c : Bool) → (a || (a || c)) ≡ (a || c)
or-twice true c = refl
or-twice false c = refl

-- What is put in its place is there, and nothing else is new.
has-with : (p q : Prefix) (ps : List Prefix) → has_prefix (with_prefix ps p) q ≡ has_prefix (p ∷ ps) q
has-with p q [] = refl
has-with p q (x ∷ xs) = by_order (prefix_cmp p x) refl (has-with p q xs)
  where
    by_order : (o : Ordering) → prefix_cmp p x ≡ o → has_prefix (with_prefix xs p) q ≡ has_prefix (p ∷ xs) q
        → has_prefix (with_prefix (x ∷ xs) p) q ≡ has_prefix (p ∷ x ∷ xs) q
    by_order Less e rest = rw e refl
    by_order Equal e rest =
        let same : p ≡ x = found-is p x (ap is_eq e) in
        rw e (sym (ap (λ y. is_at (prefix_cmp q) y || has_prefix (x ∷ xs) q) same ∙ or-twice (is_at (prefix_cmp q) x) (has_prefix xs q)))
    by_order Greater e rest =
        rw e (ap (λ b. is_at (prefix_cmp q) x || b) rest ∙ or-comm (is_at (prefix_cmp q) x) (is_at (prefix_cmp q) p) (has_prefix xs q))

module _ (width addr : ℕ) where
  -- Of these prefixes, one with which the address begins, and none is longer; or there is none.
  record Greatest (ps : List Prefix) : Type 0 where
    of : Prefix
    has : has_prefix ps of ≡ true
    begins : begins_with width addr of ≡ true
    all : (q : Prefix) → has_prefix ps q ≡ true → begins_with width addr q ≡ true → q.len ≤ of.len

  abbrev HasNone : List Prefix → Type 0
  HasNone ps = (q : Prefix) → has_prefix ps q ≡ true → begins_with width addr q ≡ true → ⊥

  one-first : (p : Prefix) (ps : List Prefix) → begins_with width addr p ≡ true → ((q : Prefix) → has_prefix ps q ≡ true → begins_with width addr q ≡ true → q.len ≤ p.len) → Greatest (p ∷ ps)
  one-first p ps begins all = record { of = p; has = has-itself p ps; begins = begins; all = most }
    where
      most : (q : Prefix) → has_prefix (p ∷ ps) q ≡ true → begins_with width addr q ≡ true → q.len ≤ p.len
      most q has begin = by_place (has-cases q p ps has)
        where
          by_place : (q ≡ p) ⊎ (has_prefix ps q ≡ true) → q.len ≤ p.len
          by_place (inl same) = subst (λ (r : Prefix). r.len ≤ p.len) (sym same) (omega arith)
          by_place (inr there) = all q there begin

  one-later : (p : Prefix) (ps : List Prefix) (g : Greatest ps) → (begins_with width addr p ≡ true → p.len ≤ g.of.len) → Greatest (p ∷ ps)
  one-later p ps g small = record { of = g.of; has = has-more g.of p ps g.has; begins = g.begins; all = most }
    where
      most : (q : Prefix) → has_prefix (p ∷ ps) q ≡ true → begins_with width addr q ≡ true → q.len ≤ g.of.len
      most q has begin = by_place (has-cases q p ps has)
        where
          by_place : (q ≡ p) ⊎ (has_prefix ps q ≡ true) → q.len ≤ g.of.len
          by_place (inl same) = subst (λ (r : Prefix). r.len ≤ g.of.len) (sym same) (small (subst (λ (r : Prefix). begins_with width addr r ≡ true) same begin))
          by_place (inr there) = g.all q there begin

  greatest : (ps : List Prefix) → Greatest ps ⊎ HasNone ps
  greatest [] = inr (λ q has begin. absurd (cc))
  greatest (p ∷ ps) = by_first (begins_with width addr p) refl (greatest ps)
    where
      by_first : (b : Bool) → begins_with width addr p ≡ b → Greatest ps ⊎ HasNone ps → Greatest (p ∷ ps) ⊎ HasNone (p ∷ ps)
      by_first true e (inl g) = by_len (cases_lt g.of.len p.len)
        where
          by_len : (g.of.len < p.len) ⊎ (p.len ≤ g.of.len) → Greatest (p ∷ ps) ⊎ HasNone (p ∷ ps)
          by_len (inl longer) = inl (one-first p ps e (λ q has begin. omega (arith, g.all q has begin, longer)))
          by_len (inr small) = inl (one-later p ps g (λ begins. small))
      by_first true e (inr none) = inl (one-first p ps e (λ q has begin. absurd (none q has begin)))
      by_first false e (inl g) = inl (one-later p ps g (λ begins. absurd (cc (e, begins))))
      by_first false e (inr none) = inr outside
        where
          outside : HasNone (p ∷ ps)
          outside q has begin = by_place (has-cases q p ps has)
            where
              by_place : (q ≡ p) ⊎ (has_prefix ps q ≡ true) → ⊥
              by_place (inl same) = absurd (cc (e, subst (λ (r : Prefix). begins_with width addr r ≡ true) same begin))
              by_place (inr there) = none q there begin

  longest-of : (ps : List Prefix) (g : Greatest ps) → longest width addr ps ≡ Some g.of.len
  longest-of ps g =
      longest-here width addr g.of.len ps (ap (has_prefix ps) (sym (is-prefix width addr g.of g.begins)) ∙ g.has) g.all

  -- The longest hangs on which prefixes there are, and not on their order.
  pub longest-same : (ps qs : List Prefix) → ((q : Prefix) → has_prefix ps q ≡ has_prefix qs q) → longest width addr ps ≡ longest width addr qs
  longest-same ps qs same = by_place (greatest ps)
    where
      by_place : Greatest ps ⊎ HasNone ps → longest width addr ps ≡ longest width addr qs
      by_place (inl g) =
          let other : Greatest qs = record { of = g.of; has = sym (same g.of) ∙ g.has; begins = g.begins; all = λ q has begin. g.all q (same q ∙ has) begin } in
          longest-of ps g ∙ sym (longest-of qs other)
      by_place (inr none) = longest-none width addr ps none ∙ sym (longest-none width addr qs (λ q has begin. none q (same q ∙ has) begin))

  -- With one prefix more in its place, the longest is that of all of them.
  pub longest-added : (p : Prefix) (ps : List Prefix) → longest width addr (with_prefix ps p) ≡ longest width addr (p ∷ ps)
  longest-added p ps = longest-same (with_prefix ps p) (p ∷ ps) (λ q. has-with p q ps)
