-- All sets of a name: those that stand under its key, and the set of a type among them.
use Rattle.std.proofs.Common.{◌≡◌, ℕ, refl, ap, sym, ◌∙◌, append-nil}
use Rattle.std.specs.Prelude.{Bool, true, false, ◌&&◌, List, [], ◌∷◌, ◌++◌, Option, Some, cond, find}
use Rattle.std.specs.List.{AllByRecursion, filter}
use Rattle.std.specs.List.Sorted.{IsStrictlySortedBy}
use Rattle.std.specs.Map.{keys_of, lookup}
use Rattle.std.specs.BTreeMap.{is_at}
use Rattle.std.specs.Ordering.{nat_cmp}
use Rattle.std.specs.declared.cmp.Ordering.{Ordering}
use Rattle.std.specs.declared.cmp.Ordering.TheVariants.{Less}
use Rattle.std.specs.Cmp.Lexicographic.{slice_cmp}
use Rattle.std.specs.Str.{bytes_eq}
use Rattle.std.proofs.lemmas.Map.Text.{is_eq-slice_cmp}
use Rattle.zst_handler.specs.dnw_codes.declared.record_type.RecordType.{RecordType}
use Rattle.zst_handler.specs.dnw_name.DomainName.{DomainName, name_eq}
use Rattle.zst_handler.specs.zst_record.RecordSets.{RRset}
use Rattle.zst_key.specs.NameKeys.{name_key}
use Rattle.zst_handler.specs.Lookups.{sets_of_name}
use Rattle.zst_handler.specs.Zones.{rrset_at}
use Rattle.zst_map.specs.ZoneMaps.{IsNode, IsOwnedAt}
use Rattle.zst_map.proofs.Entries.{sets_of}
use Rattle.zst_map.proofs.ZoneEntries.{node_sets}
use Rattle.zst_map.proofs.ZoneNodes.{is_of_type, owner_test, past_key}

-- ---- lists
module _ {X : Type 0} (p : X → Bool) where
  filter_step : (b : Bool) (x : X) (xs ys : List X) → cond b (x ∷ (xs ++ ys)) (xs ++ ys) ≡ cond b (x ∷ xs) xs ++ ys
  filter_step true x xs ys = refl
  filter_step false x xs ys = refl

  pub filter_append : (xs ys : List X) → filter p (xs ++ ys) ≡ filter p xs ++ filter p ys
  filter_append [] ys = refl
  filter_append (x ∷ xs) ys = ap (λ (zs : List X). cond (p x) (x ∷ zs) zs) (filter_append xs ys) ∙ filter_step (p x) x (filter p xs) (filter p ys)

find_step : {X : Type 0} (q : X → Bool) (b : Bool) (x : X) (rest : Option X) (xs : List X) → rest ≡ find q xs → cond (b && q x) (Some x) rest ≡ find q (cond b (x ∷ xs) xs)
find_step q true x rest xs e = ap (cond (q x) (Some x)) e
find_step q false x rest xs e = e

pub find_filter : {X : Type 0} (p q : X → Bool) (xs : List X) → find (λ x. p x && q x) xs ≡ find q (filter p xs)
find_filter p q [] = refl
find_filter p q (x ∷ xs) = find_step q (p x) x (find (λ y. p y && q y) xs) (filter p xs) (find_filter p q xs)

-- by a test that says which part has it
joined : {X : Type 0} (b : Bool) (first rest here there : List X) → (b ≡ true → first ≡ here) → (b ≡ true → rest ≡ [])
    → (b ≡ false → first ≡ []) → (b ≡ false → rest ≡ there) → first ++ rest ≡ cond b here there
joined true first rest here there f r g s = rw (f refl, r refl) (append-nil here)
joined false first rest here there f r g s = rw (g refl, s refl) refl

-- ---- the set of a type
pub type_among : (sets : List RRset) (name : DomainName) (t : RecordType) → rrset_at sets name t ≡ find (is_of_type t) (sets_of_name sets name)
type_among sets name t = find_filter (λ set. name_eq name set.name) (is_of_type t) sets

-- ---- under one key
abbrev is_named : DomainName → RRset → Bool
is_named name set = name_eq name set.name

all_under_key : (name : DomainName) (key : List ℕ) (sets : List RRset) → AllByRecursion (IsOwnedAt key) sets
    → bytes_eq (name_key name) key ≡ true → filter (is_named name) sets ≡ sets
all_under_key name key [] all e = refl
all_under_key name key (set ∷ sets) all e =
    let first : name_eq name set.name ≡ true = owner_test name key set all.0 ∙ e in
    let rest : filter (is_named name) sets ≡ sets = all_under_key name key sets all.1 e in
    rw (first, rest) refl

none_under_key : (name : DomainName) (key : List ℕ) (sets : List RRset) → AllByRecursion (IsOwnedAt key) sets
    → bytes_eq (name_key name) key ≡ false → filter (is_named name) sets ≡ []
none_under_key name key [] all e = refl
none_under_key name key (set ∷ sets) all e =
    let first : name_eq name set.name ≡ false = owner_test name key set all.0 ∙ e in
    let rest : filter (is_named name) sets ≡ [] = none_under_key name key sets all.1 e in
    rw (first, rest) refl

-- ---- all entries
module _ {K V : Type 0} (octets : K → List ℕ) (sets : V → List RRset) where
  abbrev key_cmp : K → K → Ordering
  key_cmp a b = slice_cmp nat_cmp (octets a) (octets b)

  abbrev AreNodes : List (K × V) → Type 0
  AreNodes es = AllByRecursion (λ entry. IsNode (octets entry.0) (sets entry.1)) es

  held_cond : (b : Bool) (v : V) (o : Option V) → node_sets octets sets (cond b (Some v) o) ≡ cond b (sets v) (node_sets octets sets o)
  held_cond true v o = refl
  held_cond false v o = refl

  none_later : (name : DomainName) (k : K) (es : List (K × V)) → AreNodes es → AllByRecursion (λ l. key_cmp k l ≡ Less) (keys_of es)
      → bytes_eq (name_key name) (octets k) ≡ true → filter (is_named name) (sets_of octets sets es) ≡ []
  none_later name k [] nodes later e = refl
  none_later name k (entry ∷ es) nodes later e =
      let first : filter (is_named name) (sets entry.1) ≡ []
      = none_under_key name (octets entry.0) (sets entry.1) nodes.0.owned (past_key octets sets (name_key name) (octets k) (octets entry.0) e later.0) in
      let rest : filter (is_named name) (sets_of octets sets es) ≡ [] = none_later name k es nodes.1 later.1 e in
      filter_append (is_named name) (sets entry.1) (sets_of octets sets es) ∙ rw (first, rest) refl

  -- All sets of a name are those under its key.
  pub named_in : (name : DomainName) (es : List (K × V)) → AreNodes es → IsStrictlySortedBy key_cmp (keys_of es)
      → sets_of_name (sets_of octets sets es) name ≡ node_sets octets sets (lookup (is_at (λ k. slice_cmp nat_cmp (name_key name) (octets k))) es)
  unfolding IsStrictlySortedBy
  named_in name [] nodes ordered = refl
  named_in name (entry ∷ es) nodes ordered =
      let b : Bool = bytes_eq (name_key name) (octets entry.0) in
      let o : Option V = lookup (is_at (λ k. slice_cmp nat_cmp (name_key name) (octets k))) es in
      filter_append (is_named name) (sets entry.1) (sets_of octets sets es)
      ∙ joined b (filter (is_named name) (sets entry.1)) (filter (is_named name) (sets_of octets sets es)) (sets entry.1) (node_sets octets sets o)
      (all_under_key name (octets entry.0) (sets entry.1) nodes.0.owned)
      (none_later name entry.0 es nodes.1 ordered.0)
      (none_under_key name (octets entry.0) (sets entry.1) nodes.0.owned)
      (λ e. named_in name es nodes.1 ordered.1)
      ∙ sym (ap (λ (w : Bool). node_sets octets sets (cond w (Some entry.1) o)) (is_eq-slice_cmp (name_key name) (octets entry.0)) ∙ held_cond b entry.1 o)
