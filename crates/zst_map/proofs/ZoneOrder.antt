-- The sets of a zone's map stand in order: by their keys, and under one key by their types.
use Rattle.std.proofs.Common.{◌≡◌, ℕ, ◌<◌, refl, sym, ap, ◌∙◌}
use Rattle.std.specs.Prelude.{List, [], ◌∷◌, ◌++◌}
use Rattle.std.specs.List.{AllByRecursion}
use Rattle.std.specs.List.Sorted.{IsStrictlySortedBy}
use Rattle.std.specs.Map.{keys_of}
use Rattle.std.specs.Cmp.{nat_cmp_is}
use Rattle.std.specs.Cmp.Lexicographic.{slice_cmp}
use Rattle.std.specs.Ordering.{nat_cmp, ordering_reverse, ordering_then}
use Rattle.std.specs.declared.cmp.Ordering.{Ordering}
use Rattle.std.specs.declared.cmp.Ordering.TheVariants.{Less, Equal, Greater}
use Rattle.std.proofs.lemmas.Cmp.{nat_list_cmp_total}
use Rattle.zst_handler.specs.dnw_codes.RecordType.{record_type_number}
use Rattle.zst_handler.specs.zst_record.RecordSets.{RRset}
use Rattle.zst_handler.specs.dnw_name.DomainName.{name_cmp}
use Rattle.zst_key.specs.NameKeys.{name_key}
use Rattle.zst_key.proofs.KeyOrder.{key-order}
use Rattle.zst_handler.specs.Zones.{AreInOrder, set_cmp}
use Rattle.zst_map.specs.ZoneMaps.{IsNode, IsOwnedAt, TypesRise}
use Rattle.zst_map.proofs.Entries.{IsZone, sets_of}

own_reverse : (o : Ordering) → o ≡ ordering_reverse o → o ≡ Equal
own_reverse Less e = cc
own_reverse Equal e = refl
own_reverse Greater e = cc

same_place : (key : List ℕ) → slice_cmp nat_cmp key key ≡ Equal
same_place key = own_reverse (slice_cmp nat_cmp key key) (nat_list_cmp_total.antisymm key key)

-- Owners stand as their keys do.
owners_stand : (k l : List ℕ) (a b : RRset) (o : Ordering) → IsOwnedAt k a → IsOwnedAt l b → slice_cmp nat_cmp k l ≡ o → name_cmp a.name b.name ≡ o
owners_stand k l a b o is_a is_b e =
    sym (key-order a.name b.name)
    ∙ ap (λ (t : List ℕ). slice_cmp nat_cmp t (name_key b.name)) is_a.owner
    ∙ ap (slice_cmp nat_cmp k) is_b.owner
    ∙ e

-- Under one key the types decide, else the keys.
by_type : (key : List ℕ) (a b : RRset) → IsOwnedAt key a → IsOwnedAt key b → record_type_number a.record_type < record_type_number b.record_type → set_cmp a b ≡ Less
by_type key a b is_a is_b below =
    ap (λ (o : Ordering). ordering_then o (nat_cmp (record_type_number a.record_type) (record_type_number b.record_type)))
    (owners_stand key key a b Equal is_a is_b (same_place key))
    ∙ sym (nat_cmp_is (record_type_number a.record_type) (record_type_number b.record_type) Less below)

by_key : (k l : List ℕ) (a b : RRset) → IsOwnedAt k a → IsOwnedAt l b → slice_cmp nat_cmp k l ≡ Less → set_cmp a b ≡ Less
by_key k l a b is_a is_b less =
    ap (λ (o : Ordering). ordering_then o (nat_cmp (record_type_number a.record_type) (record_type_number b.record_type)))
    (owners_stand k l a b Less is_a is_b less)

abbrev AreBehind : RRset → List RRset → Type 0
AreBehind set sets = AllByRecursion (λ later. set_cmp set later ≡ Less) sets

-- ---- under one key
types_behind : (key : List ℕ) (set : RRset) (sets : List RRset) → IsOwnedAt key set → AllByRecursion (IsOwnedAt key) sets
    → AllByRecursion (λ later. record_type_number set.record_type < record_type_number later.record_type) sets → AreBehind set sets
types_behind key set [] is all above = tt
types_behind key set (s ∷ sets) is all above =
    (by_type key set s is all.0 above.0, types_behind key set sets is all.1 above.1)

node_ordered : (key : List ℕ) (sets : List RRset) → AllByRecursion (IsOwnedAt key) sets → TypesRise sets → AreInOrder sets
node_ordered key [] all risen = tt
node_ordered key (s ∷ sets) all risen =
    (types_behind key s sets all.0 all.1 risen.0, node_ordered key sets all.1 risen.1)

-- ---- one key's sets before another's
behind_append : (set : RRset) (xs ys : List RRset) → AreBehind set xs → AreBehind set ys → AreBehind set (xs ++ ys)
behind_append set [] ys a b = b
behind_append set (x ∷ xs) ys a b = (a.0, behind_append set xs ys a.1 b)

ordered_append : (xs ys : List RRset) → AreInOrder xs → AreInOrder ys → AllByRecursion (λ x. AreBehind x ys) xs → AreInOrder (xs ++ ys)
ordered_append [] ys a b each = b
ordered_append (x ∷ xs) ys a b each = (behind_append x xs ys a.0 each.0, ordered_append xs ys a.1 b each.1)

keys_behind : (k l : List ℕ) (set : RRset) (sets : List RRset) → IsOwnedAt k set → AllByRecursion (IsOwnedAt l) sets → slice_cmp nat_cmp k l ≡ Less
    → AreBehind set sets
keys_behind k l set [] is all less = tt
keys_behind k l set (s ∷ sets) is all less = (by_key k l set s is all.0 less, keys_behind k l set sets is all.1 less)

-- ---- all entries
module _ {K V : Type 0} (octets : K → List ℕ) (sets : V → List RRset) where
  abbrev AreNodes : List (K × V) → Type 0
  AreNodes es = AllByRecursion (λ entry. IsNode (octets entry.0) (sets entry.1)) es

  abbrev AreAbove : K → List (K × V) → Type 0
  AreAbove k es = AllByRecursion (λ l. slice_cmp nat_cmp (octets k) (octets l) ≡ Less) (keys_of es)

  entries_behind : (k : K) (set : RRset) (es : List (K × V)) → IsOwnedAt (octets k) set → AreNodes es → AreAbove k es → AreBehind set (sets_of octets sets es)
  entries_behind k set [] is nodes above = tt
  entries_behind k set (e ∷ es) is nodes above =
      behind_append set (sets e.1) (sets_of octets sets es)
      (keys_behind (octets k) (octets e.0) set (sets e.1) is nodes.0.owned above.0)
      (entries_behind k set es is nodes.1 above.1)

  each_behind : (k : K) (node : List RRset) (es : List (K × V)) → AllByRecursion (IsOwnedAt (octets k)) node → AreNodes es → AreAbove k es
      → AllByRecursion (λ set. AreBehind set (sets_of octets sets es)) node
  each_behind k [] es all nodes above = tt
  each_behind k (s ∷ node) es all nodes above =
      (entries_behind k s es all.0 nodes above, each_behind k node es all.1 nodes above)

  entries_ordered : (es : List (K × V)) → AreNodes es → IsStrictlySortedBy (λ a b. slice_cmp nat_cmp (octets a) (octets b)) (keys_of es)
      → AreInOrder (sets_of octets sets es)
  unfolding IsStrictlySortedBy
  entries_ordered [] nodes ordered = tt
  entries_ordered (e ∷ es) nodes ordered =
      ordered_append (sets e.1) (sets_of octets sets es)
      (node_ordered (octets e.0) (sets e.1) nodes.0.owned nodes.0.rise)
      (entries_ordered es nodes.1 ordered.1)
      (each_behind e.0 (sets e.1) es nodes.0.owned nodes.1 ordered.0)

  pub zone_ordered : (es : List (K × V)) → IsZone octets sets es → AreInOrder (sets_of octets sets es)
  zone_ordered es is = entries_ordered es is.nodes is.ordered
