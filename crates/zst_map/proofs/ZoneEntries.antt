-- A zone's entries with a change of one owner.
use Rattle.std.proofs.Common.{◌≡◌, ℕ, refl, ap, sym, ◌∙◌, subst, length, arith}
use Rattle.std.specs.Prelude.{Bool, true, false, ◌&&◌, List, [], ◌∷◌, ◌++◌, Option, Some, None, cond, find}
use Rattle.std.specs.List.{AllByRecursion}
use Rattle.std.specs.Map.{keys_of, lookup}
use Rattle.std.specs.BTreeMap.{is_at, insert_entry}
use Rattle.std.specs.Ordering.{nat_cmp, is_eq, match_ordering}
use Rattle.std.specs.declared.cmp.Ordering.{Ordering}
use Rattle.std.specs.declared.cmp.Ordering.TheVariants.{Less, Equal, Greater}
use Rattle.std.specs.Cmp.Lexicographic.{slice_cmp}
use Rattle.std.specs.Str.{bytes_eq}
use Rattle.std.proofs.lemmas.Map.Text.{is_eq-slice_cmp}
use Rattle.std.proofs.lemmas.Slice.Eq.{bytes_eq-Decides}
use Rattle.zst_handler.specs.dnw_codes.declared.record_type.RecordType.{RecordType}
use Rattle.zst_handler.specs.dnw_name.DomainName.{DomainName, name_eq}
use Rattle.zst_handler.specs.dnw_codes.RecordType.{same_record_type}
use Rattle.zst_key.specs.NameKeys.{name_key}
use Rattle.zst_handler.specs.zst_record.RecordSets.{RRset}
use Rattle.zst_handler.specs.Updates.{Replaces, set_of_type}
use Rattle.zst_handler.specs.Zones.{rrset_at}
use Rattle.zst_map.specs.Changes.{made, owner_of, type_in, with_change}
use Rattle.zst_map.specs.declared.change.Change.{Change}
use Rattle.zst_map.specs.ZoneMaps.{IsNode}
use Rattle.zst_map.proofs.Entries.{IsZone, sets_of}
use Rattle.zst_map.proofs.Keys.{same_key}
use Rattle.zst_map.proofs.ZoneNodes.{is_of_type, set_in, stored_in}
use Rattle.zst_map.proofs.NodeSets.{find_change}

pub same_octets : (q k : List ℕ) → bytes_eq q k ≡ true → q ≡ k
same_octets q k = (bytes_eq-Decides q k).0

module _ {K V : Type 0} (octets : K → List ℕ) (sets : V → List RRset) where
  abbrev pub key_cmp : K → K → Ordering
  key_cmp a b = slice_cmp nat_cmp (octets a) (octets b)

  abbrev pub at_key : List ℕ → K → Bool
  at_key q = is_at (λ k. slice_cmp nat_cmp q (octets k))

  abbrev AreNodes : List (K × V) → Type 0
  AreNodes es = AllByRecursion (λ entry. IsNode (octets entry.0) (sets entry.1)) es

  test : (q : List ℕ) (k : K) → at_key q k ≡ bytes_eq q (octets k)
  test q k = is_eq-slice_cmp q (octets k)

  node_step : (a : Bool) (k : List ℕ) (e : K × V) (o : Option V) (v : V) → cond a (Some e.1) o ≡ Some v
      → (a ≡ true → IsNode k (sets e.1)) → (o ≡ Some v → IsNode k (sets v)) → IsNode k (sets v)
  node_step true k e o v found h more = let g : e.1 ≡ v = cc in subst (λ (t : V). IsNode k (sets t)) g (h refl)
  node_step false k e o v found h more = more found

  -- what stands under a key is its node
  pub node_found : (k : List ℕ) (es : List (K × V)) (v : V) → AreNodes es → lookup (at_key k) es ≡ Some v → IsNode k (sets v)
  node_found k [] v nodes found = let h : ⊥ = cc in absurd h
  node_found k (e ∷ es) v nodes found =
      node_step (at_key k e.0) k e (lookup (at_key k) es) v found
      (λ a. subst (λ (t : List ℕ). IsNode t (sets e.1)) (sym (same_octets k (octets e.0) (sym (test k e.0) ∙ a))) nodes.0)
      (node_found k es v nodes.1)

  -- ---- with a value under a key
  -- ---- the zone
  abbrev pub node_sets : Option V → List RRset
  node_sets None = []
  node_sets (Some v) = sets v

  find_in_node : (o : Option V) (t : RecordType) → set_in octets sets o t ≡ find (is_of_type t) (node_sets o)
  find_in_node None t = refl
  find_in_node (Some v) t = refl

  -- the set of one type is another one under a key, or none
  pub replaced : (old new : List (K × V)) (owner : DomainName) (kind : RecordType) (found : Option RRset) (o : Option V) → IsZone octets sets old → IsZone octets sets new
      → ((name : DomainName) → lookup (at_key (name_key name)) new ≡ cond (bytes_eq (name_key name) (name_key owner)) o (lookup (at_key (name_key name)) old))
      → ((t : RecordType) → find (is_of_type t) (node_sets o) ≡ cond (same_record_type kind t) found (find (is_of_type t) (node_sets (lookup (at_key (name_key owner)) old))))
      → Replaces (sets_of octets sets old) owner kind found (sets_of octets sets new)
  replaced old new owner kind found o was is looked holds =
      λ name t. stored_in octets sets name t new is.nodes is.ordered
      ∙ ap (λ (v : Option V). set_in octets sets v t) (looked name)
      ∙ by name t (bytes_eq (name_key name) (name_key owner)) refl
    where
      by : (name : DomainName) (t : RecordType) (b : Bool) → bytes_eq (name_key name) (name_key owner) ≡ b
          → set_in octets sets (cond b o (lookup (at_key (name_key name)) old)) t
          ≡ cond (name_eq name owner && same_record_type kind t) found (rrset_at (sets_of octets sets old) name t)
      by name t true e =
          let there : List RRset = node_sets (lookup (at_key (name_key owner)) old) in
          let named : name_eq name owner ≡ true = sym (same_key name owner) ∙ e in
          let before : rrset_at (sets_of octets sets old) name t ≡ find (is_of_type t) there
          = stored_in octets sets name t old was.nodes was.ordered
          ∙ ap (λ (q : List ℕ). set_in octets sets (lookup (at_key q) old) t) (same_octets (name_key name) (name_key owner) e)
          ∙ find_in_node (lookup (at_key (name_key owner)) old) t in
          rw (named, before) (find_in_node o t ∙ holds t)
      by name t false e =
          let named : name_eq name owner ≡ false = sym (same_key name owner) ∙ e in
          rw named (sym (stored_in octets sets name t old was.nodes was.ordered))

  -- the set of a name and a type is the one under its key
  pub stored_at : (es : List (K × V)) (name : DomainName) (t : RecordType) → IsZone octets sets es
      → rrset_at (sets_of octets sets es) name t ≡ find (is_of_type t) (node_sets (lookup (at_key (name_key name)) es))
  stored_at es name t is = stored_in octets sets name t es is.nodes is.ordered ∙ find_in_node (lookup (at_key (name_key name)) es) t

  -- ---- with another value under a key, or none
  -- ---- after a value is written under a key
  found_first : (a : Bool) (x v : V) (o : Option V) → cond a (Some x) o ≡ Some v → a ≡ true → x ≡ v
  found_first true x v o e h = cc
  found_first false x v o e h = let g : ⊥ = cc in absurd g

  found_later : (a : Bool) (x v : V) (o : Option V) → cond a (Some x) o ≡ Some v → a ≡ false → o ≡ Some v
  found_later true x v o e h = let g : ⊥ = cc in absurd g
  found_later false x v o e h = e

  same_step : (o : Ordering) (k : K) (e : K × V) (es rest : List (K × V)) (v w : V) → cond (is_eq o) (Some e.1) (lookup (at_key (octets k)) es) ≡ Some v → sets w ≡ sets v
      → keys_of (match_ordering o ((k, w) ∷ e ∷ es) ((e.0, w) ∷ es) (e ∷ rest)) ≡ keys_of (e ∷ es)
      → (lookup (at_key (octets k)) es ≡ Some v → keys_of rest ≡ keys_of es → sets_of octets sets rest ≡ sets_of octets sets es)
      → sets_of octets sets (match_ordering o ((k, w) ∷ e ∷ es) ((e.0, w) ∷ es) (e ∷ rest)) ≡ sets_of octets sets (e ∷ es)
  same_step Less k e es rest v w found same keys more = absurd (omega (arith, ap length keys))
  same_step Equal k e es rest v w found same keys more =
      ap (λ (t : List RRset). t ++ sets_of octets sets es) (same ∙ ap sets (sym (found_first true e.1 v (lookup (at_key (octets k)) es) found refl)))
  same_step Greater k e es rest v w found same keys more =
      let later : keys_of rest ≡ keys_of es = cc in
      ap (λ (t : List RRset). sets e.1 ++ t) (more (found_later false e.1 v (lookup (at_key (octets k)) es) found refl) later)

  -- the same sets in another vector
  pub same_sets : (k : K) (es : List (K × V)) (v w : V) → lookup (at_key (octets k)) es ≡ Some v → sets w ≡ sets v → keys_of (insert_entry key_cmp es k w) ≡ keys_of es
      → sets_of octets sets (insert_entry key_cmp es k w) ≡ sets_of octets sets es
  same_sets k [] v w found same keys = let h : ⊥ = cc in absurd h
  same_sets k (e ∷ es) v w found same keys =
      same_step (slice_cmp nat_cmp (octets k) (octets e.0)) k e es (insert_entry key_cmp es k w) v w found same keys (λ f later. same_sets k es v w f same later)

  -- The set of one type is what a change makes of it.
  pub changed_at : (old new : List (K × V)) (w : V) (there : Option V) (change : Change) → IsZone octets sets old → IsZone octets sets new
      → there ≡ lookup (at_key (name_key (owner_of change))) old → sets w ≡ with_change (node_sets there) change
      → ((name : DomainName) → lookup (at_key (name_key name)) new ≡ cond (bytes_eq (name_key name) (name_key (owner_of change))) (Some w) (lookup (at_key (name_key name)) old))
      → Replaces (sets_of octets sets old) (owner_of change) (type_in change) (Some (made change (rrset_at (sets_of octets sets old) (owner_of change) (type_in change)))) (sets_of octets sets new)
  changed_at old new w there change was now found holds looked =
      let node : node_sets there ≡ node_sets (lookup (at_key (name_key (owner_of change))) old) = ap node_sets found in
      let stored : rrset_at (sets_of octets sets old) (owner_of change) (type_in change) ≡ set_of_type (type_in change) (node_sets there)
      = stored_at old (owner_of change) (type_in change) was ∙ ap (find (is_of_type (type_in change))) (sym node) in
      replaced old new (owner_of change) (type_in change) _ (Some w) was now looked
      (λ t. ap (find (is_of_type t)) holds ∙ find_change t (node_sets there) change
      ∙ ap (λ (s : Option RRset). cond (same_record_type (type_in change) t) (Some (made change s)) (find (is_of_type t) (node_sets there))) (sym stored)
      ∙ ap (λ (ss : List RRset). cond (same_record_type (type_in change) t) (Some (made change (rrset_at (sets_of octets sets old) (owner_of change) (type_in change)))) (find (is_of_type t) ss)) node)
