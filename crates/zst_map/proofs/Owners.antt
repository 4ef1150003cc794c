-- The nearest owner from a name up: what is at a cut is at an owner, and nothing at the names passed.
use Rattle.std.proofs.Common.{◌≡◌, ℕ, ◌-◌, ◌<◌, drop, length, refl, ap, sym, ◌∙◌, arith, subst}
use Rattle.std.specs.Prelude.{Bool, true, false, ◌&&◌, ◌||◌, ◌==◌, List, [], ◌∷◌, Option, Some, None, cond, find, is_some, IsSome, option_map}
use Rattle.std.specs.Bool.{beq}
use Rattle.std.specs.List.{AllByRecursion}
use Rattle.std.specs.BTreeMap.{is_at}
use Rattle.std.specs.Map.{lookup}
use Rattle.std.proofs.lemmas.Bool.{true≢false, and_parts, eqb-false, eqb-true}
use Rattle.zst_handler.specs.dnw_codes.declared.record_type.RecordType.{RecordType}
use Rattle.zst_handler.specs.dnw_codes.declared.record_type.RecordType.TheVariants as kind
use Rattle.zst_handler.specs.dnw_codes.RecordType.{same_record_type}
use Rattle.zst_handler.specs.dnw_name.DomainName.{DomainName, domain_name, is_at_or_below, lowercase_name, name_cmp, name_eq}
use Rattle.zst_handler.specs.zst_record.RecordSets.{RRset}
use Rattle.zst_key.specs.Ancestors.{nearest_from, nearest_in, or_else, parent, up}
use Rattle.zst_key.specs.NameKeys.{name_key}
use Rattle.zst_key.specs.declared.key.NameKey.{NameKey}
use Rattle.zst_key.proofs.KeyLemmas.{eq-below}
use Rattle.zst_key.proofs.NamesAbove.{above-shorter, below-up, is-above}
use Rattle.zst_handler.specs.Found.{above, cut_at, cut_found, delegation, here, is_address}
use Rattle.zst_handler.specs.Lookups.{sets_of_name}
use Rattle.zst_handler.specs.Zones.{rrset_at}
use Rattle.zst_map.specs.ZoneMaps.{IsNode, exists_alike, owned, some_sets}
use Rattle.zst_map.proofs.Entries.{IsZone, sets_of}
use Rattle.zst_map.proofs.NamedSets.{type_among}
use Rattle.zst_map.proofs.NearestOf.{above_parent, leads_to, nearest_above_it, nearest_here}
use Rattle.zst_map.proofs.Searched.{address_here}
use Rattle.zst_map.proofs.ZoneEntries.{node_sets}
use Rattle.zst_map.proofs.ZoneMapsBy.{Entries, Node, named_by, sets}
use Rattle.zst_map.proofs.ZoneNodes.{is_of_type}

-- ---- what stands in the map
filled_at : (test : NameKey → Bool) (entries : Entries) (node : Node) → AllByRecursion (λ entry. IsNode (name_key entry.0) (sets entry.1)) entries
    → lookup test entries ≡ Some node → 0 < length node
filled_at test [] node all there = let h : ⊥ = cc in absurd h
filled_at test (entry ∷ entries) node all there = by (test entry.0) there (λ e. filled_at test entries node all.1 e)
  where
    by : (b : Bool) → cond b (Some entry.1) (lookup test entries) ≡ Some node → (lookup test entries ≡ Some node → 0 < length node) → 0 < length node
    by true e rest = let same : entry.1 ≡ node = cc in subst (λ (n : Node). 0 < length n) same all.0.filled
    by false e rest = rest e

pub some_filled : (xs : List RRset) → 0 < length xs → some_sets xs ≡ Some xs
some_filled [] some = absurd (omega (arith, some))
some_filled (x ∷ xs) some = refl

-- Sets are none, or some, as a slice's `is_empty` says it.
pub no_sets : (xs : List RRset) (b : Bool) → b ≡ (length xs == 0) → b ≡ true → xs ≡ []
no_sets [] b e f = refl
no_sets (x ∷ xs) b e f = absurd (let none = eqb-true (length (x ∷ xs)) 0 (sym e ∙ f) in omega (arith, none))

pub more_sets : (xs : List RRset) (b : Bool) → b ≡ (length xs == 0) → b ≡ false → 0 < length xs
more_sets [] b e f = absurd (eqb-false (length {A = RRset} []) 0 (sym e ∙ f) refl)
more_sets (x ∷ xs) b e f = omega arith

-- The sets under a name's key are the name's, if it owns some.
pub owned_by : (entries : Entries) (zone : List RRset) (name : DomainName) → IsZone name_key sets entries → sets_of name_key sets entries ≡ zone
    → option_map sets (lookup (is_at (name_cmp name)) entries) ≡ owned zone name
owned_by entries zone name is view =
    by (lookup (is_at (name_cmp name)) entries) refl
    ∙ ap some_sets (named_by entries zone name (lookup (is_at (name_cmp name)) entries) is view refl)
  where
    by : (found : Option Node) → lookup (is_at (name_cmp name)) entries ≡ found → option_map sets found ≡ some_sets (node_sets name_key sets found)
    by None e = refl
    by (Some node) e = sym (some_filled node (filled_at (is_at (name_cmp name)) entries node is.nodes e))

-- ---- the nearest owner
module _ {Y : Type 0} (g : DomainName → Option Y) where
  pub at_from : (fqdn : Bool) (labels : List (List ℕ)) (o : DomainName) (y : Y) → nearest_from g fqdn labels ≡ Some (o, y) → g o ≡ Some y
  at_from fqdn [] o y e = by (g (domain_name fqdn [])) refl e
    where
      by : (r : Option Y) → g (domain_name fqdn []) ≡ r → option_map {U = DomainName × Y} (λ x. (domain_name fqdn [], x)) r ≡ Some (o, y) → g o ≡ Some y
      by None is found = let h : ⊥ = cc in absurd h
      by (Some z) is found = let same : (domain_name fqdn [], z) ≡ (o, y) = cc in ap g (sym (ap (λ (p : DomainName × Y). p.0) same)) ∙ is ∙ ap (λ (p : DomainName × Y). Some p.1) same
  at_from fqdn (label ∷ labels) o y e = by (g (domain_name fqdn (label ∷ labels))) refl e (λ found. at_from fqdn labels o y found)
    where
      by : (r : Option Y) → g (domain_name fqdn (label ∷ labels)) ≡ r → or_else (option_map {U = DomainName × Y} (λ x. (domain_name fqdn (label ∷ labels), x)) r) (nearest_from g fqdn labels) ≡ Some (o, y)
          → (nearest_from g fqdn labels ≡ Some (o, y) → g o ≡ Some y) → g o ≡ Some y
      by None is found rest = rest found
      by (Some z) is found rest =
          let same : (domain_name fqdn (label ∷ labels), z) ≡ (o, y) = cc in
          ap g (sym (ap (λ (p : DomainName × Y). p.0) same)) ∙ is ∙ ap (λ (p : DomainName × Y). Some p.1) same

owned_is : (xs y : List RRset) → some_sets xs ≡ Some y → y ≡ xs
owned_is [] y e = let h : ⊥ = cc in absurd h
owned_is (x ∷ xs) y e = let same : x ∷ xs ≡ y = cc in sym same

pub none_owned : (xs : List RRset) → some_sets xs ≡ None → xs ≡ []
none_owned [] e = refl
none_owned (x ∷ xs) e = let h : ⊥ = cc in absurd h

none_typed : (zone : List RRset) (name : DomainName) (t : RecordType) → owned zone name ≡ None → rrset_at zone name t ≡ None
none_typed zone name t none = type_among zone name t ∙ ap (find (is_of_type t)) (none_owned (sets_of_name zone name) none)

-- A cut is at an owner.
within_owned : (zone : List RRset) (name : DomainName) → IsSome (cut_at zone name) → IsSome (owned zone name)
within_owned zone name some = by (owned zone name) refl
  where
    by : (o : Option (List RRset)) → owned zone name ≡ o → is_some o ≡ true
    by (Some x) e = refl
    by None e =
        let none : cut_at zone name ≡ None = ap (option_map (λ (set : RRset). cond (is_some (rrset_at zone name kind.SOA)) None (Some set))) (none_typed zone name kind.NS e) in
        absurd (true≢false (sym some ∙ ap is_some none))

pub none_here : (zone : List RRset) (name : DomainName) (t : RecordType) → owned zone name ≡ None → here zone t name ≡ None
none_here zone name t none =
    address_here zone name t (is_address t) (none_typed zone name t none) (none_typed zone name kind.CNAME none) refl
    ∙ by (is_address t) (rrset_at zone name kind.ANAME) (none_typed zone name kind.ANAME none)
  where
    by : (b : Bool) (o : Option RRset) → o ≡ None → cond b o None ≡ None
    by true o e = e
    by false o e = refl

module _ (zone : List RRset) (key owner : DomainName) (own : List RRset) (e : nearest_in (owned zone) key ≡ Some (owner, own)) where
  pub owner_sets : own ≡ sets_of_name zone owner
  owner_sets = owned_is (sets_of_name zone owner) own (at_from (owned zone) key.fqdn key.labels owner own e)

  pub owner_there : owned zone owner ≡ Some own
  owner_there = at_from (owned zone) key.fqdn key.labels owner own e

  pub same_cuts : nearest_in (cut_at zone) key ≡ nearest_in (cut_at zone) owner
  same_cuts = (leads_to (cut_at zone) (owned zone) key owner own (within_owned zone) e).same

  -- An owner at the name or below it is the name.
  pub owner_is : lowercase_name owner ≡ owner → lowercase_name key ≡ key → (beq owner.fqdn key.fqdn && is_at_or_below owner key) ≡ true → owner ≡ key
  owner_is low also below =
      let no_lower = (leads_to (cut_at zone) (owned zone) key owner own (within_owned zone) e).no_lower in
      let shorter = above-shorter owner key (and_parts (beq owner.fqdn key.fqdn) (is_at_or_below owner key) below).1 in
      let levels : length owner.labels - length key.labels ≡ 0 = omega (arith, no_lower, shorter) in
      sym (is-above owner key low also below ∙ ap (up owner) levels)

  -- Where the owner is another one, the name owns nothing.
  pub unowned : (beq owner.fqdn key.fqdn && is_at_or_below owner key) ≡ false → owned zone key ≡ None
  unowned off = by (owned zone key) refl
    where
      same_flag : (f : Bool) → beq f f ≡ true
      same_flag true = refl
      same_flag false = refl

      by : (o : Option (List RRset)) → owned zone key ≡ o → o ≡ None
      by None is = refl
      by (Some x) is =
          let same : Some (owner, own) ≡ Some (key, x) = sym e ∙ nearest_here (owned zone) key x is in
          let one : (owner, own) ≡ (key, x) = cc in
          let named : owner ≡ key = ap (λ (p : DomainName × List RRset). p.0) one in
          let on : (beq owner.fqdn key.fqdn && is_at_or_below owner key) ≡ true
          = subst (λ (p : DomainName). (beq p.fqdn key.fqdn && is_at_or_below p key) ≡ true) (sym named) (rw (same_flag key.fqdn) (below-up key 0)) in
          absurd (true≢false (sym on ∙ off))

  pub delegation_from : (t : RecordType) → owned zone key ≡ None → cut_found (nearest_in (cut_at zone) owner) ≡ delegation zone key t
  delegation_from t off =
      ap cut_found (sym same_cuts) ∙ by (same_record_type t kind.DS)
    where
      none : cut_at zone key ≡ None
      none = ap (option_map (λ (set : RRset). cond (is_some (rrset_at zone key kind.SOA)) None (Some set))) (none_typed zone key kind.NS off)

      by : (b : Bool) → cut_found (nearest_in (cut_at zone) key) ≡ cond b (cut_found (above (cut_at zone) key)) (cut_found (nearest_in (cut_at zone) key))
      by true = ap cut_found (nearest_above_it (cut_at zone) key none)
      by false = refl

-- Where a name owns nothing, the nearest owner from it up is the nearest from the name above it.
pub nearest_parent : (zone : List RRset) (key : DomainName) → owned zone key ≡ None → nearest_in (owned zone) key ≡ nearest_in (owned zone) (parent key)
nearest_parent zone key none = by key.labels refl
  where
    by : (labels : List (List ℕ)) → key.labels ≡ labels → nearest_in (owned zone) key ≡ nearest_in (owned zone) (parent key)
    by [] root =
        let same : parent key ≡ key = ap (λ (labels : List (List ℕ)). domain_name key.fqdn (drop 1 labels)) root ∙ ap (domain_name key.fqdn) (sym root) in
        ap (nearest_in (owned zone)) (sym same)
    by (label ∷ labels) is =
        nearest_above_it (owned zone) key none
        ∙ above_parent (owned zone) key (λ (root : key.labels ≡ []). let h : ⊥ = cc in h)

-- A name that owns sets exists.
alike : (name other : DomainName) → name_eq name other ≡ true → (beq other.fqdn name.fqdn && is_at_or_below other name) ≡ true
alike name other e = rw (flags, eq-below name other e) refl
  where
    turned : (f g : Bool) → beq f g ≡ true → beq g f ≡ true
    turned true true h = refl
    turned false false h = refl
    turned true false h = h
    turned false true h = h

    flags : beq other.fqdn name.fqdn ≡ true
    flags = turned name.fqdn other.fqdn (and_parts (beq name.fqdn other.fqdn) _ e).0

exists_one : (b : Bool) (any : Bool) → b ≡ true → (b || any) ≡ true
exists_one true any e = refl
exists_one false any e = absurd (true≢false (sym e))

exists_more : (b : Bool) (any : Bool) → any ≡ true → (b || any) ≡ true
exists_more true any e = refl
exists_more false any e = e

pub owner_exists : (zone : List RRset) (name : DomainName) (own : List RRset) → some_sets (sets_of_name zone name) ≡ Some own → true ≡ exists_alike zone name
owner_exists [] name own e = let h : ⊥ = cc in absurd h
owner_exists (set ∷ zone) name own e = by (name_eq name set.name) refl e (λ rest. owner_exists zone name own rest)
  where
    by : (b : Bool) → name_eq name set.name ≡ b → some_sets (cond b (set ∷ sets_of_name zone name) (sets_of_name zone name)) ≡ Some own
        → (some_sets (sets_of_name zone name) ≡ Some own → true ≡ exists_alike zone name) → true ≡ exists_alike (set ∷ zone) name
    by true same there rest = sym (exists_one (beq set.name.fqdn name.fqdn && is_at_or_below set.name name) (exists_alike zone name) (alike name set.name same))
    by false other there rest = sym (exists_more (beq set.name.fqdn name.fqdn && is_at_or_below set.name name) (exists_alike zone name) (sym (rest there)))
