-- What stands at a name, by the first entry of a zone's map from the name's key on.
use Rattle.std.proofs.Common.{◌≡◌, ℕ, refl, ap, sym, ◌∙◌}
use Rattle.std.specs.Prelude.{Bool, true, false, ◌&&◌, List, [], ◌∷◌, Option, Some, None, cond}
use Rattle.std.specs.List.{AllByRecursion}
use Rattle.std.specs.List.Sorted.{IsStrictlySortedBy}
use Rattle.std.specs.Map.{keys_of, lookup}
use Rattle.std.specs.Ordering.{nat_cmp, is_eq, is_le, ordering_reverse}
use Rattle.std.specs.declared.cmp.Ordering.{Ordering}
use Rattle.std.specs.declared.cmp.Ordering.TheVariants.{Less, Equal, Greater}
use Rattle.std.specs.Cmp.Lexicographic.{slice_cmp}
use Rattle.std.specs.Str.{bytes_eq}
use Rattle.std.proofs.lemmas.Bool.{eq-eqb, true≢false}
use Rattle.std.proofs.lemmas.Cmp.{nat_list_cmp_total}
use Rattle.std.proofs.lemmas.Map.Text.{is_eq-slice_cmp}
use Rattle.zst_handler.specs.dnw_name.DomainName.{DomainName}
use Rattle.zst_handler.specs.zst_record.RecordSets.{RRset}
use Rattle.zst_key.specs.NameKeys.{name_key}
use Rattle.zst_map.specs.ZoneMaps.{IsNode, exists_alike}
use Rattle.zst_map.proofs.Entries.{sets_of}
use Rattle.zst_map.proofs.Keys.{begins}
use Rattle.zst_map.proofs.ZoneEntries.{at_key, key_cmp, same_octets}
use Rattle.zst_map.proofs.ZoneNodes.{exists_from, first_begins, from_key}

pub begins_itself : (q : List ℕ) → begins q q ≡ true
begins_itself [] = refl
begins_itself (x ∷ q) = rw (eq-eqb x x refl) (begins_itself q)

-- octets that do not stand behind some are none that do
not_behind : (q k l : List ℕ) → is_le (slice_cmp nat_cmp q k) ≡ true → slice_cmp nat_cmp k l ≡ Less → is_eq (slice_cmp nat_cmp q l) ≡ false
not_behind q k l le less = by (bytes_eq q l) refl
  where
    by : (b : Bool) → bytes_eq q l ≡ b → is_eq (slice_cmp nat_cmp q l) ≡ false
    by true t =
        let over : slice_cmp nat_cmp q k ≡ Greater
        = nat_list_cmp_total.antisymm q k ∙ ap ordering_reverse (ap (slice_cmp nat_cmp k) (same_octets q l t) ∙ less) in
        absurd (true≢false (sym le ∙ ap is_le over))
    by false t = is_eq-slice_cmp q l ∙ t

module _ {K V : Type 0} (octets : K → List ℕ) (sets : V → List RRset) where
  -- What the first of some entries has under these octets.
  abbrev pub first_at : List ℕ → List (K × V) → Option V
  first_at q [] = None
  first_at q (entry ∷ es) = cond (at_key octets sets q entry.0) (Some entry.1) None

  none_behind : (q : List ℕ) (k : K) (es : List (K × V)) → AllByRecursion (λ l. key_cmp octets sets k l ≡ Less) (keys_of es) → is_le (slice_cmp nat_cmp q (octets k)) ≡ true
      → lookup (at_key octets sets q) es ≡ None
  none_behind q k [] later le = refl
  none_behind q k (e ∷ es) later le = rw (not_behind q (octets k) (octets e.0) le later.0) (none_behind q k es later.1 le)

  found_step : (q : List ℕ) (entry : K × V) (es : List (K × V)) (o : Ordering) → slice_cmp nat_cmp q (octets entry.0) ≡ o
      → (is_le o ≡ true → lookup (at_key octets sets q) es ≡ None) → lookup (at_key octets sets q) es ≡ first_at q (from_key octets sets q es)
      → cond (is_eq o) (Some entry.1) (lookup (at_key octets sets q) es) ≡ first_at q (cond (is_le o && true) (entry ∷ from_key octets sets q es) (from_key octets sets q es))
  found_step q entry es Less is none more = none refl ∙ sym (ap (λ (t : Ordering). cond (is_eq t) (Some entry.1) None) is)
  found_step q entry es Equal is none more = sym (ap (λ (t : Ordering). cond (is_eq t) (Some entry.1) None) is)
  found_step q entry es Greater is none more = more

  -- What stands under a key is under the first one from it on.
  pub found_from : (q : List ℕ) (es : List (K × V)) → IsStrictlySortedBy (key_cmp octets sets) (keys_of es) → lookup (at_key octets sets q) es ≡ first_at q (from_key octets sets q es)
  unfolding IsStrictlySortedBy
  found_from q [] ordered = refl
  found_from q (entry ∷ es) ordered =
      found_step q entry es (slice_cmp nat_cmp q (octets entry.0)) refl (none_behind q entry.0 es ordered.0) (found_from q es ordered.1)

  first_there : (q : List ℕ) (es : List (K × V)) (v : V) → first_at q es ≡ Some v → first_begins octets sets q es ≡ true
  first_there q [] v e = let h : ⊥ = cc in absurd h
  first_there q (entry ∷ es) v e = by (at_key octets sets q entry.0) refl e
    where
      by : (b : Bool) → at_key octets sets q entry.0 ≡ b → cond b (Some entry.1) None ≡ Some v → begins q (octets entry.0) ≡ true
      by true t f = ap (begins q) (sym (same_octets q (octets entry.0) (sym (is_eq-slice_cmp q (octets entry.0)) ∙ t))) ∙ begins_itself q
      by false t f = let h : ⊥ = cc in absurd h

  -- A name under which something stands exists.
  pub there_exists : (name : DomainName) (es : List (K × V)) (v : V) → AllByRecursion (λ entry. IsNode (octets entry.0) (sets entry.1)) es
      → IsStrictlySortedBy (key_cmp octets sets) (keys_of es) → lookup (at_key octets sets (name_key name)) es ≡ Some v → exists_alike (sets_of octets sets es) name ≡ true
  there_exists name es v nodes ordered there =
      exists_from octets sets name es nodes ordered
      ∙ first_there (name_key name) (from_key octets sets (name_key name) es) v (sym (found_from (name_key name) es ordered) ∙ there)
