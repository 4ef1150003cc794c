-- What the map of a zone keeps: its owners in order, and their sets by a hash.
use Rattle.std.proofs.Common.{◌≡◌, ℕ, ◌<◌, ◌∙◌, refl, sym, ap, subst, arith, length}
use Rattle.std.specs.Prelude.{Bool, true, false, ◌++◌, ◌&&◌, List, [], ◌∷◌, Option, Some, None, cond, filter, is_some, IsSome, map, option_map}
use Rattle.std.specs.BTreeMap.{BTreeMap, get, is_at}
use Rattle.std.specs.HashMap.{HashMap}
use Rattle.std.specs.HashMap.{get as hashed}
use Rattle.std.specs.List.{AllByRecursion}
use Rattle.std.specs.List.Sorted.{IsStrictlySortedBy}
use Rattle.std.specs.Map.{keys_of, lookup}
use Rattle.std.specs.Ordering.{is_le}
use Rattle.std.specs.Str.{bytes_eq}
use Rattle.std.proofs.lemmas.Bool.{true≢false}
use Rattle.zst_handler.specs.dnw_codes.declared.record_type.RecordType.{RecordType}
use Rattle.zst_handler.specs.dnw_name.DomainName.{DomainName, name_cmp, name_eq}
use Rattle.zst_handler.specs.dnw_name.NameOrderLaws.{name_eq-by_cmp}
use Rattle.zst_handler.specs.zst_record.OneOrMany.{items_of}
use Rattle.zst_handler.specs.zst_record.RecordLaws.{name_eq_equiv}
use Rattle.zst_handler.specs.zst_record.RecordSets.{RRset}
use Rattle.zst_handler.specs.zst_record.declared.one_or_many.OneOrMany.{OneOrMany}
use Rattle.zst_handler.specs.Lookups.{sets_of_name}
use Rattle.zst_handler.specs.Updates.{Replaces, set_of_type}
use Rattle.zst_handler.specs.Zones.{AreInOrder, rrset_at}
use Rattle.zst_map.specs.Changes.{made, owner_of, type_in, with_change}
use Rattle.zst_map.specs.declared.change.Change.{Change}
use Rattle.zst_key.specs.Ancestors.{nearest_in}
use Rattle.zst_key.specs.NameKeys.{name_key}
use Rattle.zst_handler.specs.Stores.{held, held_sets, sets_in}
use Rattle.zst_map.specs.ZoneMaps.{IsKept, IsNode, owned}
use Rattle.zst_map.proofs.Entries.{IsZone, sets_of}
use Rattle.zst_map.proofs.Keys.{same_key}
use Rattle.zst_map.proofs.NearestOf.{IsWithin, leads_to, nearest_here, none_nearest}
use Rattle.zst_map.proofs.Owners.{at_from, owned_by, some_filled}
use Rattle.zst_map.proofs.Removals.{set_taken, updated}
use Rattle.zst_map.proofs.ZoneEntries.{at_key, changed_at, node_sets, same_octets}
use Rattle.zst_map.proofs.ZoneOrder.{zone_ordered}
use Rattle.zst_map.proofs.ZoneMapsBy.{Entries, from_in, looked_by_key, named_by, set_there, sets, sorted_by_key}

abbrev pub Owner : Type 0
Owner = DomainName × Unit {0}

-- ---- names that are equal are asked for alike
pub alike_keys : (a b : DomainName) → name_eq a b ≡ true → name_key a ≡ name_key b
alike_keys a b e = same_octets (name_key a) (name_key b) (same_key a b ∙ e)

same_test : (a b x : DomainName) → name_eq a b ≡ true → name_eq a x ≡ name_eq b x
same_test a b x e = sym (same_key a x) ∙ ap (λ (q : List ℕ). bytes_eq q (name_key x)) (alike_keys a b e) ∙ same_key b x

same_lookup : {X : Type 0} (p q : DomainName → Bool) (es : List (DomainName × X)) → ((x : DomainName) → p x ≡ q x) → lookup p es ≡ lookup q es
same_lookup p q [] h = refl
same_lookup p q (e ∷ es) h = rw (h e.0, same_lookup p q es h) refl

at_itself : (name : DomainName) → is_at (name_cmp name) name ≡ true
at_itself name = sym (name_eq-by_cmp name name) ∙ name_eq_equiv.refl name

some_of : {X : Type 0} (b : Bool) (x : X) (o : Option X) → b ≡ true → IsSome (cond b (Some x) o)
some_of true x o e = refl
some_of false x o e = absurd (true≢false (sym e))

some_later : {X : Type 0} (b : Bool) (x : X) (o : Option X) → IsSome o → IsSome (cond b (Some x) o)
some_later true x o some = refl
some_later false x o some = some

module _ {S : Type 0} (nodes : HashMap DomainName (OneOrMany RRset) S) where
  hashed_same : (a b : DomainName) → name_eq a b ≡ true → hashed name_eq nodes a ≡ hashed name_eq nodes b
  hashed_same a b e = same_lookup (name_eq a) (name_eq b) nodes.entries (λ x. same_test a b x e)

  held_same : (a b : DomainName) → name_eq a b ≡ true → held nodes a ≡ held nodes b
  held_same a b e = ap held_sets (hashed_same a b e)

  -- ---- the owners with their sets
  abbrev pub entry_of : Owner → DomainName × List RRset
  entry_of owner = (owner.0, held nodes owner.0)

  abbrev pub entries_of : List Owner → Entries
  entries_of owners = map entry_of owners

  pub sets_as : (owners : List Owner) → sets_of name_key sets (entries_of owners) ≡ sets_in nodes owners
  sets_as [] = refl
  sets_as (o ∷ os) = ap (λ (t : List RRset). held nodes o.0 ++ t) (sets_as os)

  keys_as : (owners : List Owner) → keys_of (entries_of owners) ≡ keys_of owners
  keys_as [] = refl
  keys_as (o ∷ os) = ap (λ (t : List DomainName). o.0 ∷ t) (keys_as os)

  pub from_as : (key : DomainName) (owners : List Owner) → from_in key (entries_of owners) ≡ entries_of (filter (λ (o : Owner). is_le (name_cmp key o.0) && true) owners)
  from_as key [] = refl
  from_as key (o ∷ os) = by (is_le (name_cmp key o.0) && true) (from_as key os)
    where
      by : (b : Bool) → from_in key (entries_of os) ≡ entries_of (filter (λ (p : Owner). is_le (name_cmp key p.0) && true) os)
          → cond b (entry_of o ∷ from_in key (entries_of os)) (from_in key (entries_of os)) ≡ entries_of (cond b (o ∷ filter (λ (p : Owner). is_le (name_cmp key p.0) && true) os) (filter (λ (p : Owner). is_le (name_cmp key p.0) && true) os))
      by true more = ap (λ (t : Entries). entry_of o ∷ t) more
      by false more = more

  entry_at : (name : DomainName) (owners : List Owner) → lookup (is_at (name_cmp name)) (entries_of owners) ≡ option_map (λ u. held nodes name) (lookup (is_at (name_cmp name)) owners)
  entry_at name [] = refl
  entry_at name (o ∷ os) = by (is_at (name_cmp name) o.0) refl (entry_at name os)
    where
      by : (b : Bool) → is_at (name_cmp name) o.0 ≡ b → lookup (is_at (name_cmp name)) (entries_of os) ≡ option_map (λ u. held nodes name) (lookup (is_at (name_cmp name)) os)
          → cond b (Some (held nodes o.0)) (lookup (is_at (name_cmp name)) (entries_of os)) ≡ option_map (λ u. held nodes name) (cond b (Some o.1) (lookup (is_at (name_cmp name)) os))
      by true e more = ap (λ (t : List RRset). Some t) (sym (held_same name o.0 (name_eq-by_cmp name o.0 ∙ e)))
      by false e more = more

  nodes_of : (owners : List Owner) → ((name : DomainName) → IsSome (lookup (is_at (name_cmp name)) owners) → IsNode (name_key name) (held nodes name))
      → AllByRecursion (λ entry. IsNode (name_key entry.0) (sets entry.1)) (entries_of owners)
  nodes_of [] each = tt
  nodes_of (o ∷ os) each = (
    each o.0 (some_of (is_at (name_cmp o.0) o.0) o.1 (lookup (is_at (name_cmp o.0)) os) (at_itself o.0)),
    nodes_of os (λ name some. each name (some_later (is_at (name_cmp name) o.0) o.1 (lookup (is_at (name_cmp name)) os) some)),
  )

  module _ (owners : BTreeMap DomainName (Unit {0})) (kept : IsKept owners nodes) where
    pub zone_of : IsZone name_key sets (entries_of owners.entries)
    zone_of = record {
      nodes = nodes_of owners.entries kept.each;
      ordered = sorted_by_key (entries_of owners.entries) (subst (IsStrictlySortedBy name_cmp) (sym (keys_as owners.entries)) kept.ordered);
    }

    -- What is under a name's key among the entries is what the hash has.
    pub looked_at : (name : DomainName) → lookup (is_at (name_cmp name)) (entries_of owners.entries) ≡ option_map items_of (hashed name_eq nodes name)
    looked_at name =
        entry_at name owners.entries
        ∙ by (hashed name_eq nodes name) (get name_cmp owners name) refl refl
      where
        by : (o : Option (OneOrMany RRset)) (u : Option (Unit {0})) → hashed name_eq nodes name ≡ o → get name_cmp owners name ≡ u → option_map (λ v. held nodes name) u ≡ option_map items_of o
        by None None e f = refl
        by (Some node) (Some v) e f = ap (λ (p : Option (OneOrMany RRset)). Some (held_sets p)) e
        by (Some node) None e f = absurd (true≢false (sym (kept.known name (ap is_some e)) ∙ ap is_some f))
        by None (Some v) e f = absurd (let full = (kept.each name (ap is_some f)).filled in omega (arith, full, ap (λ (p : Option (OneOrMany RRset)). length (held_sets p)) e))

    module _ (zone : List RRset) (view : sets_in nodes owners.entries ≡ zone) where
      pub seen_as : sets_of name_key sets (entries_of owners.entries) ≡ zone
      seen_as = sets_as owners.entries ∙ view

      pub held_as : (o : Option (OneOrMany RRset)) → held_sets o ≡ node_sets name_key sets (option_map items_of o)
      held_as None = refl
      held_as (Some node) = refl

      -- The sets under a name's key are the name's.
      pub sets_named : (name : DomainName) → held nodes name ≡ sets_of_name zone name
      sets_named name =
          held_as (hashed name_eq nodes name)
          ∙ ap (node_sets name_key sets) (sym (looked_at name))
          ∙ named_by (entries_of owners.entries) zone name (lookup (is_at (name_cmp name)) (entries_of owners.entries)) zone_of seen_as refl

      pub owned_as : (name : DomainName) → option_map items_of (hashed name_eq nodes name) ≡ owned zone name
      owned_as name = sym (looked_at name) ∙ same_option (lookup (is_at (name_cmp name)) (entries_of owners.entries)) ∙ owned_by (entries_of owners.entries) zone name zone_of seen_as
        where
          same_option : (o : Option (List RRset)) → o ≡ option_map sets o
          same_option None = refl
          same_option (Some x) = refl

      pub under_as : (key : DomainName) (node : OneOrMany RRset) → Some node ≡ hashed name_eq nodes key → items_of node ≡ sets_of_name zone key
      under_as key node there = ap held_sets there ∙ sets_named key

      pub set_under : (key : DomainName) (t : RecordType) (o : Option (OneOrMany RRset)) → o ≡ hashed name_eq nodes key → rrset_at zone key t ≡ set_of_type t (held_sets o)
      set_under key t o there =
          set_taken (entries_of owners.entries) zone key t (option_map items_of o) zone_of seen_as (ap (option_map items_of) there ∙ sym (looked_at key))
          ∙ ap (set_of_type t) (sym (held_as o))

      within : IsWithin (owned zone) (get name_cmp owners)
      within name some = kept.known name (by (hashed name_eq nodes name) (ap is_some (owned_as name) ∙ some))
        where
          by : (o : Option (OneOrMany RRset)) → IsSome (option_map items_of o) → IsSome o
          by None there = there
          by (Some node) there = refl

      -- The nearest owner, with its sets.
      pub nearest_as : (key : DomainName) (found : Option Owner) → found ≡ nearest_in (get name_cmp owners) key → option_map (λ (p : Owner). (p.0, sets_of_name zone p.0)) found ≡ nearest_in (owned zone) key
      nearest_as key None e = sym (none_nearest (owned zone) (get name_cmp owners) key within (sym e))
      nearest_as key (Some p) e =
          let there : get name_cmp owners p.0 ≡ Some p.1 = at_from (get name_cmp owners) key.fqdn key.labels p.0 p.1 (sym e) in
          let filled = subst (λ (xs : List RRset). 0 < length xs) (sets_named p.0) (kept.each p.0 (ap is_some there)).filled in
          sym ((leads_to (owned zone) (get name_cmp owners) key p.0 p.1 within (sym e)).same
          ∙ nearest_here (owned zone) p.0 (sets_of_name zone p.0) (some_filled (sets_of_name zone p.0) filled))

      -- The set that a change meets is among those under its key.
      pub set_held : (key : DomainName) (change : Change) → name_key key ≡ name_key (owner_of change)
          → rrset_at zone (owner_of change) (type_in change) ≡ set_of_type (type_in change) (held nodes key)
      set_held key change same =
          let at = lookup (is_at (name_cmp key)) (entries_of owners.entries) in
          set_there (entries_of owners.entries) zone key change at zone_of seen_as same (looked_by_key key (entries_of owners.entries))
          ∙ ap (λ (o : Option (List RRset)). set_of_type (type_in change) (node_sets name_key sets o)) (looked_at key)
          ∙ ap (set_of_type (type_in change)) (sym (held_as (hashed name_eq nodes key)))

    pub in_order : AreInOrder (sets_in nodes owners.entries)
    in_order = subst AreInOrder (sets_as owners.entries) (zone_ordered name_key sets (entries_of owners.entries) zone_of)

    -- What stands under a key is its node.
    pub node_under : (key : DomainName) (node : OneOrMany RRset) → Some node ≡ hashed name_eq nodes key → IsNode (name_key key) (items_of node)
    node_under key node there =
        subst (λ (o : Option (OneOrMany RRset)). IsNode (name_key key) (held_sets o)) (sym there) (kept.each key (kept.known key (sym (ap is_some there))))

    -- The owners are the same where an owner's sets change.
    pub owners_stay : (key : DomainName) (node : OneOrMany RRset) → Some node ≡ hashed name_eq nodes key → (name : DomainName) → get name_cmp owners name ≡ cond (name_eq key name) (Some tt) (get name_cmp owners name)
    owners_stay key node there name = by (name_eq key name) refl
      where
        the_unit : (o : Option (Unit {0})) → IsSome o → o ≡ Some tt
        the_unit None some = let h : ⊥ = cc in absurd h
        the_unit (Some u) some = refl

        by : (b : Bool) → name_eq key name ≡ b → get name_cmp owners name ≡ cond b (Some tt) (get name_cmp owners name)
        by true e = the_unit (get name_cmp owners name) (kept.known name (sym (ap is_some (hashed_same key name e)) ∙ sym (ap is_some there)))
        by false e = refl

-- ---- after a change under one key
module _ {S : Type 0} (old new : HashMap DomainName (OneOrMany RRset) S) (before after : BTreeMap DomainName (Unit {0})) (key : DomainName) (node : Option (OneOrMany RRset))
    (kept : IsKept before old)
    (updates : (name : DomainName) → hashed name_eq new name ≡ cond (name_eq key name) node (hashed name_eq old name)) where
  module _ (owners : (name : DomainName) → get name_cmp after name ≡ cond (name_eq key name) (option_map (λ n. tt) node) (get name_cmp before name))
      (ordered : IsStrictlySortedBy name_cmp (keys_of after.entries))
      (is_node : (n : OneOrMany RRset) → node ≡ Some n → IsNode (name_key key) (items_of n)) where
    pub kept_after : IsKept after new
    kept_after = record {
      known = λ name. known_by name (name_eq key name) refl;
      each = λ name. each_by name (name_eq key name) refl;
      ordered = ordered;
    }
      where
        some_unit : (o : Option (OneOrMany RRset)) → IsSome o → IsSome (option_map {U = Unit {0}} (λ n. tt) o)
        some_unit None some = some
        some_unit (Some n) some = refl

        known_by : (name : DomainName) (b : Bool) → name_eq key name ≡ b → IsSome (hashed name_eq new name) → IsSome (get name_cmp after name)
        known_by name true e some =
            let there : IsSome node = sym (ap (λ (c : Bool). is_some (cond c node (hashed name_eq old name))) e) ∙ sym (ap is_some (updates name)) ∙ some in
            ap is_some (owners name) ∙ ap (λ (c : Bool). is_some (cond c (option_map (λ n. tt) node) (get name_cmp before name))) e ∙ some_unit node there
        known_by name false e some =
            let there : IsSome (hashed name_eq old name) = sym (ap (λ (c : Bool). is_some (cond c node (hashed name_eq old name))) e) ∙ sym (ap is_some (updates name)) ∙ some in
            ap is_some (owners name) ∙ ap (λ (c : Bool). is_some (cond c (option_map (λ n. tt) node) (get name_cmp before name))) e ∙ kept.known name there

        node_by : (name : DomainName) (o : Option (OneOrMany RRset)) → node ≡ o → name_eq key name ≡ true → IsSome (option_map {U = Unit {0}} (λ n. tt) o) → IsNode (name_key name) (held_sets o)
        node_by name None is e some = let h : ⊥ = cc in absurd h
        node_by name (Some n) is e some = subst (λ (k : List ℕ). IsNode k (items_of n)) (alike_keys key name e) (is_node n is)

        each_by : (name : DomainName) (b : Bool) → name_eq key name ≡ b → IsSome (get name_cmp after name) → IsNode (name_key name) (held new name)
        each_by name true e some =
            let there : IsSome (option_map {U = Unit {0}} (λ n. tt) node) = sym (ap (λ (c : Bool). is_some (cond c (option_map (λ n. tt) node) (get name_cmp before name))) e) ∙ sym (ap is_some (owners name)) ∙ some in
            subst (λ (o : Option (OneOrMany RRset)). IsNode (name_key name) (held_sets o)) (sym (updates name ∙ ap (λ (c : Bool). cond c node (hashed name_eq old name)) e))
            (node_by name node refl e there)
        each_by name false e some =
            let there : IsSome (get name_cmp before name) = sym (ap (λ (c : Bool). is_some (cond c (option_map (λ n. tt) node) (get name_cmp before name))) e) ∙ sym (ap is_some (owners name)) ∙ some in
            subst (λ (o : Option (OneOrMany RRset)). IsNode (name_key name) (held_sets o)) (sym (updates name ∙ ap (λ (c : Bool). cond c node (hashed name_eq old name)) e))
            (kept.each name there)

  -- The entries with another node under the key, or none.
  pub looked_after : IsKept after new → (name : DomainName)
      → lookup (is_at (name_cmp name)) (entries_of new after.entries) ≡ cond (is_at (name_cmp key) name) (option_map items_of node) (lookup (is_at (name_cmp name)) (entries_of old before.entries))
  looked_after now name =
      looked_at new after now name
      ∙ ap (option_map items_of) (updates name)
      ∙ by (name_eq key name)
      ∙ ap (λ (b : Bool). cond b (option_map items_of node) (option_map items_of (hashed name_eq old name))) (name_eq-by_cmp key name)
      ∙ ap (λ (o : Option (List RRset)). cond (is_at (name_cmp key) name) (option_map items_of node) o) (sym (looked_at old before kept name))
    where
      by : (b : Bool) → option_map items_of (cond b node (hashed name_eq old name)) ≡ cond b (option_map items_of node) (option_map items_of (hashed name_eq old name))
      by true = refl
      by false = refl

  -- What a change makes of the sets.
  pub replaced_after : IsKept after new → (zone : List RRset) → sets_in old before.entries ≡ zone → (change : Change) → name_key key ≡ name_key (owner_of change)
      → (w : OneOrMany RRset) → node ≡ Some w → items_of w ≡ with_change (held old key) change
      → Replaces zone (owner_of change) (type_in change) (Some (made change (rrset_at zone (owner_of change) (type_in change)))) (sets_in new after.entries)
  replaced_after now zone view change same w is holds =
      let entries = entries_of old before.entries in
      let at = lookup (is_at (name_cmp key)) entries in
      let there : at ≡ lookup (at_key name_key sets (name_key (owner_of change))) entries
      = looked_by_key key entries ∙ ap (λ (q : List ℕ). lookup (at_key name_key sets q) entries) same in
      subst (λ (z : List RRset). Replaces zone (owner_of change) (type_in change) (Some (made change (rrset_at zone (owner_of change) (type_in change)))) z) (sets_as new after.entries)
      (subst (λ (z : List RRset). Replaces z (owner_of change) (type_in change) (Some (made change (rrset_at z (owner_of change) (type_in change)))) (sets_of name_key sets (entries_of new after.entries))) (seen_as old before kept zone view)
      (changed_at name_key sets entries (entries_of new after.entries) (items_of w) at change (zone_of old before kept) (zone_of new after now) there
      (holds ∙ ap (λ (ss : List RRset). with_change ss change) (held_as old before kept zone view (hashed name_eq old key) ∙ ap (node_sets name_key sets) (sym (looked_at old before kept key))))
      (λ name. updated entries (entries_of new after.entries) key (option_map items_of node) (looked_after now) name
      ∙ ap (λ (o : Option (OneOrMany RRset)). cond (bytes_eq (name_key name) (name_key key)) (option_map items_of o) (lookup (at_key name_key sets (name_key name)) entries)) is
      ∙ ap (λ (q : List ℕ). cond (bytes_eq (name_key name) q) (Some (items_of w)) (lookup (at_key name_key sets (name_key name)) entries)) same)))

  -- Where the node has the same sets, every name has.
  pub same_after : (w : OneOrMany RRset) → node ≡ Some w → items_of w ≡ held old key → (name : DomainName) → held new name ≡ held old name
  same_after w is same name = ap held_sets (updates name) ∙ by (name_eq key name) refl
    where
      by : (b : Bool) → name_eq key name ≡ b → held_sets (cond b node (hashed name_eq old name)) ≡ held old name
      by true e = ap held_sets is ∙ same ∙ held_same old key name e
      by false e = refl

-- The sets are the same where each owner has the same.
pub same_sets : {S : Type 0} (old new : HashMap DomainName (OneOrMany RRset) S) (owners : List Owner) → ((name : DomainName) → held new name ≡ held old name) → sets_in new owners ≡ sets_in old owners
same_sets old new [] same = refl
same_sets old new (o ∷ os) same = rw (same o.0, same_sets old new os same) refl

-- ---- nothing is kept
pub none_kept : {S : Type 0} (owners : BTreeMap DomainName (Unit {0})) (nodes : HashMap DomainName (OneOrMany RRset) S) → owners.entries ≡ [] → nodes.entries ≡ [] → IsKept owners nodes
unfolding IsStrictlySortedBy
none_kept owners nodes none also = record {
  known = λ name some. absurd (true≢false (sym some ∙ ap (λ (es : List (DomainName × OneOrMany RRset)). is_some (lookup (name_eq name) es)) also));
  each = λ name some. absurd (true≢false (sym some ∙ ap (λ (es : List Owner). is_some (lookup (is_at (name_cmp name)) es)) none));
  ordered = subst (λ (es : List Owner). IsStrictlySortedBy name_cmp (keys_of es)) (sym none) tt;
}
