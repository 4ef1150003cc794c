-- The chain for a name, by handlers and by what they mean.
use Rattle.std.proofs.Common.{◌≡◌, ◌∙◌, ℕ, Vec, Global, refl, sym, ap, subst, map}
use Rattle.std.specs.Prelude.{Bool, true, false, cond, List, [], ◌∷◌, Option, Some, None, option_map}
use Rattle.std.specs.BTreeMap.{insert_entry}
use Rattle.std.specs.List.{AllByRecursion}
use Rattle.std.specs.Map.{lookup, remove_entry, set_value}
use Rattle.std.proofs.lemmas.Map.Steps.{set_value_same}
use Rattle.std.specs.Ordering.{is_eq, match_ordering}
use Rattle.std.specs.declared.cmp.Ordering.{Ordering}
use Rattle.std.specs.declared.cmp.Ordering.TheVariants.{Less, Equal, Greater}
use Rattle.zst_key.specs.Ancestors.{nearest_from, or_else}
use Rattle.zst_key.specs.dnw_name.DomainName.{DomainName, domain_name, lowercase_name, name_cmp}
use Rattle.zst_request.specs.Updating.{Asked}
use Rattle.zst_request.specs.Views.{View}
use Rattle.zsv_chains.specs.Chains.{Answer, UpdatesChain, UpdatesFirst, UpdatesFound, chain_at, chain_for, entry_for, views_of, with_chain, with_chain_at, without_chain}

-- ---- functions over what is found
map_cond : {X Y : Type 0} (f : X → Y) (b : Bool) (x : X) (o : Option X) (p : Option Y) → p ≡ option_map f o → cond b (Some (f x)) p ≡ option_map f (cond b (Some x) o)
map_cond f true x o p same = refl
map_cond f false x o p same = same

map_or_else : {X Y : Type 0} (f : X → Y) (a b : Option X) → or_else (option_map f a) (option_map f b) ≡ option_map f (or_else a b)
map_or_else f (Some x) b = refl
map_or_else f None b = refl

map_twice : {X Y Z : Type 0} (f : X → Y) (h : Y → Z) (o : Option X) → option_map h (option_map f o) ≡ option_map (λ (x : X). h (f x)) o
map_twice f h (Some x) = refl
map_twice f h None = refl

-- ---- what is found, and what it means
abbrev pub views : {H : Type 0} → (H → View) → Vec H Global → List View
views view chain = map view chain.items

pub at_views : {H : Type 0} (view : H → View) (chains : List (DomainName × Vec H Global)) (name : DomainName) → chain_at (views_of view chains) name ≡ option_map (views view) (chain_at chains name)
at_views view [] name = refl
at_views view (e ∷ chains) name = map_cond (views view) (is_eq (name_cmp name e.0)) e.1 (chain_at chains name) (chain_at (views_of view chains) name) (at_views view chains name)

abbrev with_value : {X Y : Type 0} → (X → Y) → DomainName × X → DomainName × Y
with_value f entry = (entry.0, f entry.1)

module _ {X Y : Type 0} (f : X → Y) (at : DomainName → Option X) (other : DomainName → Option Y) (same : (name : DomainName) → other name ≡ option_map f (at name)) where
  here_same : (name : DomainName) → option_map (λ (y : Y). (name, y)) (other name) ≡ option_map (with_value f) (option_map (λ (x : X). (name, x)) (at name))
  here_same name =
      ap (option_map (λ (y : Y). (name, y))) (same name) ∙ map_twice f (λ (y : Y). (name, y)) (at name) ∙ sym (map_twice (λ (x : X). (name, x)) (with_value f) (at name))

  nearest_same : (fqdn : Bool) (labels : List (List _)) → nearest_from other fqdn labels ≡ option_map (with_value f) (nearest_from at fqdn labels)
  nearest_same fqdn [] = here_same (domain_name fqdn [])
  nearest_same fqdn (label ∷ labels) =
      ap (λ (o : Option (DomainName × Y)). or_else o (nearest_from other fqdn labels)) (here_same (domain_name fqdn (label ∷ labels)))
      ∙ ap (or_else _) (nearest_same fqdn labels)
      ∙ map_or_else (with_value f) (option_map (λ (x : X). (domain_name fqdn (label ∷ labels), x)) (at (domain_name fqdn (label ∷ labels)))) (nearest_from at fqdn labels)

for_views : {H : Type 0} (view : H → View) (chains : List (DomainName × Vec H Global)) (name : DomainName) → chain_for (views_of view chains) name ≡ option_map (views view) (chain_for chains name)
for_views view chains name =
    let lower = lowercase_name name in
    let near = nearest_from (chain_at chains) lower.fqdn lower.labels in
    ap (option_map (λ (e : DomainName × List View). e.1)) (nearest_same (views view) (chain_at chains) (chain_at (views_of view chains)) (at_views view chains) lower.fqdn lower.labels)
    ∙ map_twice (with_value (views view)) (λ (e : DomainName × List View). e.1) near ∙ sym (map_twice (λ (e : DomainName × Vec _ Global). e.1) (views view) near)

-- The registered name and the chain for a name, by what the handlers mean.
pub entry_views : {H : Type 0} (view : H → View) (chains : List (DomainName × Vec H Global)) (name : DomainName)
    → entry_for (views_of view chains) name ≡ option_map (λ (entry : DomainName × Vec H Global). (entry.0, map view entry.1.items)) (entry_for chains name)
entry_views view chains name =
    let lower = lowercase_name name in
    nearest_same (views view) (chain_at chains) (chain_at (views_of view chains)) (at_views view chains) lower.fqdn lower.labels

-- The chain that was found means the chain for the name.
pub found_views : {H : Type 0} (view : H → View) (chains : List (DomainName × Vec H Global)) (name : DomainName) (found : Option (List H)) → found ≡ option_map (λ chain. chain.items) (chain_for chains name)
    → chain_for (views_of view chains) name ≡ option_map (map view) found
found_views view chains name found is =
    for_views view chains name ∙ sym (map_twice (λ (chain : Vec _ Global). chain.items) (map view) (chain_for chains name)) ∙ ap (option_map (map view)) (sym is)

-- ---- chains that are put in or taken out, and what they mean
map_ordering : {X Y : Type 0} (f : X → Y) (o : Ordering) (a b c : X) → f (match_ordering o a b c) ≡ match_ordering o (f a) (f b) (f c)
map_ordering f Less a b c = refl
map_ordering f Equal a b c = refl
map_ordering f Greater a b c = refl

inserted_views : {H : Type 0} (view : H → View) (chains : List (DomainName × Vec H Global)) (key : DomainName) (chain : Vec H Global)
    → views_of view (insert_entry name_cmp chains key chain) ≡ insert_entry name_cmp (views_of view chains) key (views view chain)
inserted_views view [] key chain = refl
inserted_views view (e ∷ chains) key chain =
    map_ordering (views_of view) (name_cmp key e.0) ((key, chain) ∷ e ∷ chains) ((e.0, chain) ∷ chains) (e ∷ insert_entry name_cmp chains key chain)
    ∙ ap (match_ordering (name_cmp key e.0) ((key, views view chain) ∷ views_of view (e ∷ chains)) ((e.0, views view chain) ∷ views_of view chains))
    (ap (λ (es : List (DomainName × List View)). (e.0, views view e.1) ∷ es) (inserted_views view chains key chain))

-- A chain that is put in.
pub with_views : {H : Type 0} (view : H → View) (chains : List (DomainName × Vec H Global)) (name : DomainName) (chain : Vec H Global)
    → views_of view (with_chain chains name chain) ≡ with_chain (views_of view chains) name (map view chain.items)
with_views view chains name chain = inserted_views view chains (lowercase_name name) chain

kept_or_not : {X Y : Type 0} (f : List X → List Y) (b : Bool) (es rest : List X) → f (cond b es rest) ≡ cond b (f es) (f rest)
kept_or_not f true es rest = refl
kept_or_not f false es rest = refl

removed_views : {H : Type 0} (view : H → View) (chains : List (DomainName × Vec H Global)) (test : DomainName → Bool)
    → views_of view (remove_entry test chains) ≡ remove_entry test (views_of view chains)
removed_views view [] test = refl
removed_views view (e ∷ chains) test =
    kept_or_not (views_of view) (test e.0) chains (e ∷ remove_entry test chains)
    ∙ ap (λ (es : List (DomainName × List View)). cond (test e.0) (views_of view chains) ((e.0, views view e.1) ∷ es)) (removed_views view chains test)

-- A chain that is taken out.
pub without_views : {H : Type 0} (view : H → View) (chains : List (DomainName × Vec H Global)) (name : DomainName)
    → views_of view (without_chain chains name) ≡ without_chain (views_of view chains) name
without_views view chains name = removed_views view chains (λ other. is_eq (name_cmp (lowercase_name name) other))

-- ---- what holds of each chain
module _ {X : Type 0} (P : X → Type 0) where
  one_of_three : (o : Ordering) (a b c : List (DomainName × X)) → AllByRecursion (λ (e : DomainName × X). P e.1) a → AllByRecursion (λ (e : DomainName × X). P e.1) b → AllByRecursion (λ (e : DomainName × X). P e.1) c
      → AllByRecursion (λ (e : DomainName × X). P e.1) (match_ordering o a b c)
  one_of_three Less a b c first second third = first
  one_of_three Equal a b c first second third = second
  one_of_three Greater a b c first second third = third

  pub all_inserted : (chains : List (DomainName × X)) (key : DomainName) (chain : X) → AllByRecursion (λ (e : DomainName × X). P e.1) chains → P chain
      → AllByRecursion (λ (e : DomainName × X). P e.1) (insert_entry name_cmp chains key chain)
  all_inserted [] key chain all new = (new, tt)
  all_inserted (e ∷ chains) key chain all new =
      one_of_three (name_cmp key e.0) ((key, chain) ∷ e ∷ chains) ((e.0, chain) ∷ chains) (e ∷ insert_entry name_cmp chains key chain)
      (new, (all.0, all.1)) (new, all.1) (all.0, all_inserted chains key chain all.1 new)

  one_of_two : (b : Bool) (a c : List (DomainName × X)) → AllByRecursion (λ (e : DomainName × X). P e.1) a → AllByRecursion (λ (e : DomainName × X). P e.1) c → AllByRecursion (λ (e : DomainName × X). P e.1) (cond b a c)
  one_of_two true a c first second = first
  one_of_two false a c first second = second

  pub all_removed : (chains : List (DomainName × X)) (test : DomainName → Bool) → AllByRecursion (λ (e : DomainName × X). P e.1) chains
      → AllByRecursion (λ (e : DomainName × X). P e.1) (remove_entry test chains)
  all_removed [] test all = tt
  all_removed (e ∷ chains) test all = one_of_two (test e.0) chains (e ∷ remove_entry test chains) all.1 (all.0, all_removed chains test all.1)

-- ---- the first handler of one chain updates its zone
set_views : {H : Type 0} (view : H → View) (test : DomainName → Bool) (chains : List (DomainName × Vec H Global)) (w : Vec H Global)
    → views_of view (set_value test chains w) ≡ set_value test (views_of view chains) (map view w.items)
set_views view test [] w = refl
set_views view test (e ∷ es) w = by (test e.0) (set_views view test es w)
  where
    by : (b : Bool) → views_of view (set_value test es w) ≡ set_value test (views_of view es) (map view w.items)
        → views_of view (cond b ((e.0, w) ∷ es) (e ∷ set_value test es w))
        ≡ cond b ((e.0, map view w.items) ∷ views_of view es) ((e.0, map view e.1.items) ∷ set_value test (views_of view es) (map view w.items))
    by true more = refl
    by false more = ap (λ (l : List (DomainName × List View)). (e.0, map view e.1.items) ∷ l) more

-- A value that was put in between leaves no trace.
set_twice : {X : Type 0} (test : DomainName → Bool) (es : List (DomainName × X)) (v w : X) → set_value test (set_value test es v) w ≡ set_value test es w
set_twice test [] v w = refl
set_twice test (e ∷ es) v w = by (test e.0) refl (set_twice test es v w)
  where
    by : (b : Bool) → test e.0 ≡ b → set_value test (set_value test es v) w ≡ set_value test es w
        → set_value test (cond b ((e.0, v) ∷ es) (e ∷ set_value test es v)) w ≡ cond b ((e.0, w) ∷ es) (e ∷ set_value test es w)
    by true is more = ap (λ (b : Bool). cond b ((e.0, w) ∷ es) ((e.0, v) ∷ set_value test es w)) is
    by false is more = ap (λ (b : Bool). cond b ((e.0, w) ∷ set_value test es v) (e ∷ set_value test (set_value test es v) w)) is ∙ ap (λ (l : List _). e ∷ l) more

-- Out and back in: the chain under a name is what was put back.
pub put_back : {H : Type 0} (view : H → View) (chains : List (DomainName × Vec H Global)) (name : DomainName) (empty : Vec H Global) (w : Vec H Global)
    → views_of view (set_value (λ other. is_eq (name_cmp name other)) (set_value (λ other. is_eq (name_cmp name other)) chains empty) w)
    ≡ with_chain_at (views_of view chains) name (map view w.items)
put_back view chains name empty w =
    ap (views_of view) (set_twice (λ other. is_eq (name_cmp name other)) chains empty w)
    ∙ set_views view (λ other. is_eq (name_cmp name other)) chains w

pub updated_chain : {H : Type 0} (view : H → View) (chains : List (DomainName × Vec H Global)) (name : DomainName) (old new : Vec H Global) (left : List (DomainName × List View))
    (asked : Asked) (moment : ℕ) (answer : Option Answer) → chain_at chains name ≡ Some old → UpdatesFirst (map view old.items) asked moment answer (map view new.items)
    → left ≡ with_chain_at (views_of view chains) name (map view new.items)
    → UpdatesChain (views_of view chains) name asked moment answer left
updated_chain view chains name old new left asked moment answer is updates after =
    let found : chain_at (views_of view chains) name ≡ Some (map view old.items) = at_views view chains name ∙ ap (option_map (views view)) is in
    subst (λ (o : Option (List View)). UpdatesFound (views_of view chains) name o asked moment answer left) (sym found)
    (map view new.items, updates, after)

unset : {X : Type 0} (test : DomainName → Bool) (es : List (DomainName × X)) (w : X) → lookup test es ≡ None → set_value test es w ≡ es
unset test [] w none = refl
unset test (e ∷ es) w none = by (test e.0) none (unset test es w)
  where
    by : (b : Bool) → cond b (Some e.1) (lookup test es) ≡ None → (lookup test es ≡ None → set_value test es w ≡ es) → cond b ((e.0, w) ∷ es) (e ∷ set_value test es w) ≡ e ∷ es
    by true gone more = absurd (cc gone)
    by false gone more = ap (λ l. e ∷ l) (more gone)

pub no_chain : {H : Type 0} (view : H → View) (chains new : List (DomainName × Vec H Global)) (name : DomainName) (w : Vec H Global) (asked : Asked) (moment : ℕ) → chain_at chains name ≡ None
    → new ≡ set_value (λ other. is_eq (name_cmp name other)) chains w
    → UpdatesChain (views_of view chains) name asked moment None (views_of view new)
no_chain view chains new name w asked moment none after =
    let found : chain_at (views_of view chains) name ≡ None = at_views view chains name ∙ ap (option_map (views view)) none in
    subst (λ (o : Option (List View)). UpdatesFound (views_of view chains) name o asked moment None (views_of view new)) (sym found)
    (refl, ap (views_of view) (after ∙ unset (λ other. is_eq (name_cmp name other)) chains w none))

-- Handlers that mean what they meant leave the chains.
pub kept_chain : {H : Type 0} (view : H → View) (chains : List (DomainName × Vec H Global)) (name : DomainName) (old new : Vec H Global) (left : List (DomainName × List View))
    → chain_at chains name ≡ Some old → map view new.items ≡ map view old.items → left ≡ with_chain_at (views_of view chains) name (map view new.items)
    → left ≡ views_of view chains
kept_chain view chains name old new left is same after =
    after ∙ ap (with_chain_at (views_of view chains) name) same
    ∙ set_value_same (λ other. is_eq (name_cmp name other)) (views_of view chains) (map view old.items)
    (at_views view chains name ∙ ap (option_map (views view)) is)
