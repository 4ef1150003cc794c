-- What is sought stands at names of an index, so that the nearest of these leads to it.
use Rattle.std.proofs.Common.{◌≡◌, ℕ, ◌≤◌, length, refl, ap, sym, ◌∙◌, arith, subst}
use Rattle.std.specs.Prelude.{Bool, List, [], ◌∷◌, Option, Some, None, is_some, IsSome, option_map}
use Rattle.std.proofs.lemmas.Bool.{true≢false}
use Rattle.zst_handler.specs.dnw_name.DomainName.{DomainName, domain_name}
use Rattle.zst_key.specs.Ancestors.{nearest_from, nearest_in, or_else, parent}
use Rattle.zst_handler.specs.Found.{above, nearest_above}

-- What is found at a name, with the name.
abbrev with_name : {X : Type 0} → DomainName → Option X → Option (DomainName × X)
with_name name found = option_map (λ x. (name, x)) found

none_named : {X : Type 0} (name : DomainName) (o : Option X) → with_name name o ≡ None → o ≡ None
none_named name None e = refl
none_named name (Some x) e = let h : ⊥ = cc in absurd h

named_at : {X : Type 0} (name other : DomainName) (o : Option X) (x : X) → with_name name o ≡ Some (other, x) → name ≡ other
named_at name other None x e = let h : ⊥ = cc in absurd h
named_at {X} name other (Some y) x e = let same : (name, y) ≡ (other, x) = cc in ap (λ (p : DomainName × X). p.0) same

pub without_name : {X : Type 0} (name : DomainName) (o : Option X) → option_map (λ (at : DomainName × X). at.1) (with_name name o) ≡ o
without_name name None = refl
without_name name (Some x) = refl

first_none : {Z : Type 0} (a b : Option Z) → or_else a b ≡ None → a ≡ None
first_none None b e = refl
first_none (Some z) b e = let h : ⊥ = cc in absurd h

second_none : {Z : Type 0} (a b : Option Z) → or_else a b ≡ None → b ≡ None
second_none None b e = e
second_none (Some z) b e = let h : ⊥ = cc in absurd h

module _ {X : Type 0} (f : DomainName → Option X) where
  -- What is at a name is the nearest.
  here_from : (fqdn : Bool) (labels : List (List ℕ)) (x : X) → f (domain_name fqdn labels) ≡ Some x → nearest_from f fqdn labels ≡ Some (domain_name fqdn labels, x)
  here_from fqdn [] x e = ap (with_name (domain_name fqdn [])) e
  here_from fqdn (label ∷ labels) x e =
      ap (λ (o : Option X). or_else (with_name (domain_name fqdn (label ∷ labels)) o) (nearest_from f fqdn labels)) e

  pub nearest_here : (name : DomainName) (x : X) → f name ≡ Some x → nearest_in f name ≡ Some (name, x)
  nearest_here name x e = here_from name.fqdn name.labels x e

  -- Where nothing is at a name, the nearest is above it.
  above_from : (fqdn : Bool) (labels : List (List ℕ)) → f (domain_name fqdn labels) ≡ None → nearest_from f fqdn labels ≡ nearest_above f fqdn labels
  above_from fqdn [] e = ap (with_name (domain_name fqdn [])) e
  above_from fqdn (label ∷ labels) e =
      ap (λ (o : Option X). or_else (with_name (domain_name fqdn (label ∷ labels)) o) (nearest_from f fqdn labels)) e

  pub nearest_above_it : (name : DomainName) → f name ≡ None → nearest_in f name ≡ above f name
  nearest_above_it name e = above_from name.fqdn name.labels e

  -- The nearest above a name with labels is the nearest of the name above it.
  pub above_parent : (name : DomainName) → (name.labels ≡ [] → ⊥) → above f name ≡ nearest_in f (parent name)
  above_parent name some = by name.labels refl
    where
      by : (labels : List (List ℕ)) → name.labels ≡ labels → nearest_above f name.fqdn labels ≡ nearest_in f (parent (domain_name name.fqdn labels))
      by [] e = absurd (some e)
      by (label ∷ labels) e = refl

  pub above_root : (name : DomainName) → name.labels ≡ [] → above f name ≡ None
  above_root name e = ap (nearest_above f name.fqdn) e

module _ {X Y : Type 0} (f : DomainName → Option X) (g : DomainName → Option Y) where
  -- Each name at which f has something is one of g's.
  abbrev pub IsWithin : Type 0
  IsWithin = (name : DomainName) → IsSome (f name) → IsSome (g name)

  not_there : (name : DomainName) → IsWithin → g name ≡ None → f name ≡ None
  not_there name within e = by (f name) (within name)
    where
      by : (o : Option X) → (IsSome o → IsSome (g name)) → o ≡ None
      by None h = refl
      by (Some x) h = absurd (true≢false (sym (h refl) ∙ ap is_some e))

  none_from : (fqdn : Bool) (labels : List (List ℕ)) → IsWithin → nearest_from g fqdn labels ≡ None → nearest_from f fqdn labels ≡ None
  none_from fqdn [] within e =
      ap (with_name (domain_name fqdn [])) (not_there (domain_name fqdn []) within (none_named (domain_name fqdn []) (g (domain_name fqdn [])) e))
  none_from fqdn (label ∷ labels) within e =
      let here = domain_name fqdn (label ∷ labels) in
      let none : f here ≡ None = not_there here within (none_named here (g here) (first_none (with_name here (g here)) (nearest_from g fqdn labels) e)) in
      ap (λ (o : Option X). or_else (with_name here o) (nearest_from f fqdn labels)) none
      ∙ none_from fqdn labels within (second_none (with_name here (g here)) (nearest_from g fqdn labels) e)

  pub none_nearest : (name : DomainName) → IsWithin → nearest_in g name ≡ None → nearest_in f name ≡ None
  none_nearest name within e = none_from name.fqdn name.labels within e

  -- The nearest of f from a name is the nearest from where the nearest of g is; that is no lower.
  pub record LeadsTo (fqdn : Bool) (labels : List (List ℕ)) (o : DomainName) : Type 0 where
    pub same : nearest_from f fqdn labels ≡ nearest_in f o
    pub no_lower : length o.labels ≤ length labels

  leads_here : (fqdn : Bool) (labels : List (List ℕ)) (o : DomainName) → domain_name fqdn labels ≡ o → LeadsTo fqdn labels o
  leads_here fqdn labels o e = subst (LeadsTo fqdn labels) e (record { same = refl; no_lower = omega arith })

  leads_from : (fqdn : Bool) (labels : List (List ℕ)) (o : DomainName) (y : Y) → IsWithin → nearest_from g fqdn labels ≡ Some (o, y) → LeadsTo fqdn labels o
  leads_from fqdn [] o y within e = leads_here fqdn [] o (named_at (domain_name fqdn []) o (g (domain_name fqdn [])) y e)
  leads_from fqdn (label ∷ labels) o y within e = by (g here) refl e (λ found. leads_from fqdn labels o y within found)
    where
      here : DomainName
      here = domain_name fqdn (label ∷ labels)

      by : (r : Option Y) → g here ≡ r → or_else (with_name here r) (nearest_from g fqdn labels) ≡ Some (o, y)
          → (nearest_from g fqdn labels ≡ Some (o, y) → LeadsTo fqdn labels o) → LeadsTo fqdn (label ∷ labels) o
      by (Some z) is found more = leads_here fqdn (label ∷ labels) o (named_at here o (Some z) y found)
      by None is found more =
          let rest : LeadsTo fqdn labels o = more found in
          record {
            same = ap (λ (r : Option X). or_else (with_name here r) (nearest_from f fqdn labels)) (not_there here within is) ∙ rest.same;
            no_lower = omega (arith, rest.no_lower);
          }

  pub leads_to : (name o : DomainName) (y : Y) → IsWithin → nearest_in g name ≡ Some (o, y) → LeadsTo name.fqdn name.labels o
  leads_to name o y within e = leads_from name.fqdn name.labels o y within e
