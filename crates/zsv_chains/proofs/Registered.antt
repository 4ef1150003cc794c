-- Going up from a name to the nearest one with a chain.
use Rattle.std.proofs.Common.{◌≡◌, ◌∙◌, ℕ, zero, suc, ◌-◌, ◌<◌, ◌≤◌, Bool, true, false, List, [], ◌∷◌, Vec, Global, drop, length, map, refl, ap, sym, subst, arith}
use Rattle.std.specs.Prelude.{Option, Some, None, not, option_map}
use Rattle.std.specs.Ordering.{is_eq, ordering_reverse}
use Rattle.std.specs.Str.{str_to_ascii_lowercase}
use Rattle.std.specs.declared.cmp.Ordering.{Ordering}
use Rattle.std.specs.declared.cmp.Ordering.TheVariants.{Less, Equal, Greater}
use Rattle.std.proofs.lemmas.Bool.{true≢false}
use Rattle.std.proofs.lemmas.List.{drop-map, length-drop, length-map}
use Rattle.zst_key.proofs.KeyLemmas.{eq-below}
use Rattle.zst_key.proofs.NamesAbove.{above-shorter, name_total, nearest-here}
use Rattle.zst_key.specs.Ancestors.{nearest_from, nearest_in, or_else, parent, up}
use Rattle.zst_key.specs.dnw_name.DomainName.{DomainName, domain_name, lowercase_name, name_cmp, name_eq}
use Rattle.zst_key.specs.dnw_name.NameOrderLaws.{name_eq-by_cmp}
use Rattle.zst_request.specs.Views.{View}
use Rattle.zsv_chains.proofs.Chained.{at_views}
use Rattle.zsv_chains.specs.Chains.{IsSelfOrAncestor, chain_at, entry_for, views_of}

pub is_false : (b : Bool) → not b ≡ true → b ≡ false
is_false true e = absurd (true≢false (sym e))
is_false false e = refl

own_order : (o : Ordering) → o ≡ ordering_reverse o → is_eq o ≡ true
own_order Less e = absurd (cc e)
own_order Equal e = refl
own_order Greater e = absurd (cc e)

equals_itself : (name : DomainName) → name_eq name name ≡ true
equals_itself name = name_eq-by_cmp name name ∙ own_order (name_cmp name name) (name_total.antisymm name name)

drop_none : (ls : List (List ℕ)) (n : ℕ) → length ls ≤ length (drop n ls) → drop n ls ≡ ls
drop_none ls zero long = refl
drop_none [] (suc n) long = refl
drop_none (l ∷ ls) (suc n) long = absurd (omega (arith, long, length-drop n ls))

-- A name that isn't the one above it is some labels below it.
pub not_there : (name above : DomainName) (is : IsSelfOrAncestor name above) → name_eq name above ≡ false → 0 < is.levels
not_there name above is apart = by is.levels is.is
  where
    by : (n : ℕ) → above ≡ up name n → 0 < n
    by zero same = absurd (true≢false (sym (equals_itself name) ∙ ap (name_eq name) (sym same) ∙ apart))
    by (suc n) same = omega arith

-- It has labels, and the name above it is below the other one too.
pub has_labels : (name above : DomainName) → IsSelfOrAncestor name above → name_eq name above ≡ false → 0 < length name.labels
has_labels name above is apart = omega (arith, not_there name above is apart, is.within)

pub one_up : (name above : DomainName) → IsSelfOrAncestor name above → name_eq name above ≡ false → IsSelfOrAncestor (parent name) above
one_up name above is apart = by is.levels is.within is.is (not_there name above is apart) name.labels refl
  where
    by : (n : ℕ) → n ≤ length name.labels → above ≡ up name n → 0 < n → (labels : List (List ℕ)) → name.labels ≡ labels → IsSelfOrAncestor (parent name) above
    by zero within same some labels e = absurd (omega (arith, some))
    by (suc n) within same some [] e = absurd (omega (arith, within, ap length e))
    by (suc n) within same some (l ∷ ls) e = record {
      levels = n;
      within = omega (arith, within, ap length e, length-drop 1 name.labels);
      is = same ∙ ap (λ (labels : List (List ℕ)). domain_name name.fqdn (drop (suc n) labels)) e ∙ sym (ap (λ (labels : List (List ℕ)). domain_name name.fqdn (drop n (drop 1 labels))) e);
    }

-- Where they are equal up to case, the way ends.
pub is_there : (name above : DomainName) → IsSelfOrAncestor name above → name_eq name above ≡ true → name ≡ above
is_there name above is same =
    let long : length name.labels ≤ length (drop is.levels name.labels) =
    subst (λ (n : DomainName). length name.labels ≤ length n.labels) is.is (above-shorter above name (eq-below name above same)) in
    sym (is.is ∙ ap (domain_name name.fqdn) (drop_none name.labels is.levels long))

-- ---- what is found
module _ {X : Type 0} (at : DomainName → Option X) where
  -- It is at or above the name.
  pub found_above : (fqdn : Bool) (labels : List (List ℕ)) (e : DomainName × X) → nearest_from at fqdn labels ≡ Some e → IsSelfOrAncestor (domain_name fqdn labels) e.0
  found_above fqdn [] e near = by (at (domain_name fqdn [])) near
    where
      by : (o : Option X) → option_map (λ x. (domain_name fqdn [], x)) o ≡ Some e → IsSelfOrAncestor (domain_name fqdn []) e.0
      by None is = absurd (cc is)
      by (Some x) is = record { levels = 0; within = omega arith; is = sym (cc is) }
  found_above fqdn (label ∷ labels) e near = by (at (domain_name fqdn (label ∷ labels))) near (found_above fqdn labels e)
    where
      by : (o : Option X) → or_else (option_map (λ x. (domain_name fqdn (label ∷ labels), x)) o) (nearest_from at fqdn labels) ≡ Some e
          → (nearest_from at fqdn labels ≡ Some e → IsSelfOrAncestor (domain_name fqdn labels) e.0) → IsSelfOrAncestor (domain_name fqdn (label ∷ labels)) e.0
      by None more above =
          let is = above more in
          record { levels = suc is.levels; within = omega (arith, is.within); is = is.is }
      by (Some x) is above = record { levels = 0; within = omega arith; is = sym (cc is) }

-- The last labels of a name, in lower case, are those of the name above.
pub trimmed : (name above : DomainName) → IsSelfOrAncestor (lowercase_name name) above
    → lowercase_name (domain_name name.fqdn (drop (length name.labels - length above.labels) name.labels)) ≡ above
trimmed name above is =
    let long : length above.labels ≡ length name.labels - is.levels =
    ap (λ (n : DomainName). length n.labels) is.is ∙ length-drop is.levels (lowercase_name name).labels ∙ ap (λ (n : ℕ). n - is.levels) (length-map name.labels str_to_ascii_lowercase) in
    let levels : length name.labels - length above.labels ≡ is.levels = omega (arith, long, is.within, length-map name.labels str_to_ascii_lowercase) in
    ap (λ (n : ℕ). lowercase_name (domain_name name.fqdn (drop n name.labels))) levels
    ∙ ap (domain_name name.fqdn) (sym (drop-map str_to_ascii_lowercase is.levels name.labels)) ∙ sym is.is

-- ---- the chain found
-- It is under the name with which it is found.
module _ {X : Type 0} (at : DomainName → Option X) where
  found_there : (fqdn : Bool) (labels : List (List ℕ)) (e : DomainName × X) → nearest_from at fqdn labels ≡ Some e → at e.0 ≡ Some e.1
  found_there fqdn [] e near = by (at (domain_name fqdn [])) refl near
    where
      by : (o : Option X) → at (domain_name fqdn []) ≡ o → option_map (λ x. (domain_name fqdn [], x)) o ≡ Some e → at e.0 ≡ Some e.1
      by None there is = absurd (cc is)
      by (Some x) there is = let same : (domain_name fqdn [], x) ≡ e = cc is in subst (λ (p : DomainName × X). at p.0 ≡ Some p.1) same there
  found_there fqdn (label ∷ labels) e near = by (at (domain_name fqdn (label ∷ labels))) refl near (found_there fqdn labels e)
    where
      by : (o : Option X) → at (domain_name fqdn (label ∷ labels)) ≡ o → or_else (option_map (λ x. (domain_name fqdn (label ∷ labels), x)) o) (nearest_from at fqdn labels) ≡ Some e
          → (nearest_from at fqdn labels ≡ Some e → at e.0 ≡ Some e.1) → at e.0 ≡ Some e.1
      by None there is more = more is
      by (Some x) there is more = let same : (domain_name fqdn (label ∷ labels), x) ≡ e = cc is in subst (λ (p : DomainName × X). at p.0 ≡ Some p.1) same there

pub entry_there : {X : Type 0} (chains : List (DomainName × X)) (name : DomainName) (e : DomainName × X) → entry_for chains name ≡ Some e → chain_at chains e.0 ≡ Some e.1
entry_there chains name e is = found_there (chain_at chains) (lowercase_name name).fqdn (lowercase_name name).labels e is

-- The chain that is found for a name that has one itself.
pub found_itself : {H : Type 0} (view : H → View) (chains : List (DomainName × Vec H Global)) (name : DomainName) (found : Option (List H)) (chain : List View)
    → found ≡ option_map (λ handlers. handlers.items) (option_map (λ entry. entry.1) (nearest_in (chain_at chains) name)) → chain_at (views_of view chains) name ≡ Some chain
    → option_map (map view) found ≡ Some chain
found_itself view chains name found chain is there = by (chain_at chains name) refl (sym (at_views view chains name) ∙ there)
  where
    by : (o : Option (Vec _ Global)) → chain_at chains name ≡ o → option_map (λ (handlers : Vec _ Global). map view handlers.items) o ≡ Some chain → option_map (map view) found ≡ Some chain
    by None at none = absurd (cc none)
    by (Some handlers) at same =
        ap (option_map (map view)) (is ∙ ap (λ (o : Option (DomainName × Vec _ Global)). option_map (λ (h : Vec _ Global). h.items) (option_map (λ (entry : DomainName × Vec _ Global). entry.1) o)) (nearest-here (chain_at chains) name handlers at)) ∙ same
