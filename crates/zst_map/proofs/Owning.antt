-- The keys of a zone's map are the owners of its sets.
use Rattle.std.proofs.Common.{◌≡◌, ◌<◌, ◌∙◌, refl, sym, ap, arith, length}
use Rattle.std.specs.Prelude.{Bool, true, false, ◌||◌, List, [], ◌∷◌, Option, Some, None, IsSome, cond, filter, is_some, option_map}
use Rattle.std.specs.BTreeMap.{BTreeMap, get, is_at}
use Rattle.std.specs.HashMap.{HashMap}
use Rattle.std.specs.HashMap.{get as hashed}
use Rattle.std.specs.List.{list_any}
use Rattle.std.specs.Map.{keys_of, lookup}
use Rattle.zst_handler.specs.dnw_name.DomainName.{DomainName, name_cmp, name_eq}
use Rattle.zst_handler.specs.dnw_name.NameOrderLaws.{name_eq-by_cmp}
use Rattle.zst_handler.specs.zst_record.OneOrMany.{items_of}
use Rattle.zst_handler.specs.zst_record.RecordSets.{RRset}
use Rattle.zst_handler.specs.zst_record.declared.one_or_many.OneOrMany.{OneOrMany}
use Rattle.zst_handler.specs.Stores.{held_sets, sets_in}
use Rattle.zst_map.specs.ZoneMaps.{AreOwners, IsKept, some_sets}
use Rattle.zst_map.proofs.Kept.{Owner, owned_as}

-- A name is among keys where something is under it.
among_keys : (name : DomainName) (es : List Owner) → list_any (name_eq name) (keys_of es) ≡ is_some (lookup (is_at (name_cmp name)) es)
among_keys name [] = refl
among_keys name (e ∷ es) =
    ap (λ (b : Bool). b || list_any (name_eq name) (keys_of es)) (name_eq-by_cmp name e.0) ∙ by (is_at (name_cmp name) e.0) (among_keys name es)
  where
    by : (b : Bool) → list_any (name_eq name) (keys_of es) ≡ is_some (lookup (is_at (name_cmp name)) es) → (b || list_any (name_eq name) (keys_of es)) ≡ is_some (cond b (Some e.1) (lookup (is_at (name_cmp name)) es))
    by true more = refl
    by false more = more

same_tests : (a b : Bool) → (a ≡ true → b ≡ true) → (b ≡ true → a ≡ true) → a ≡ b
same_tests true b f g = sym (f refl)
same_tests false true f g = g refl
same_tests false false f g = refl

mapped : {X Y : Type 0} (f : X → Y) (o : Option X) → is_some (option_map f o) ≡ is_some o
mapped f None = refl
mapped f (Some x) = refl

-- A name owns some set where a set's owner equals it.
some_owned : (sets : List RRset) (name : DomainName) → is_some (some_sets (filter (λ set. name_eq name set.name) sets)) ≡ list_any (λ set. name_eq name set.name) sets
some_owned [] name = refl
some_owned (set ∷ sets) name = by (name_eq name set.name) (some_owned sets name)
  where
    by : (b : Bool) → is_some (some_sets (filter (λ (s : RRset). name_eq name s.name) sets)) ≡ list_any (λ s. name_eq name s.name) sets
        → is_some (some_sets (cond b (set ∷ filter (λ (s : RRset). name_eq name s.name) sets) (filter (λ (s : RRset). name_eq name s.name) sets))) ≡ (b || list_any (λ s. name_eq name s.name) sets)
    by true more = refl
    by false more = more

module _ {S : Type 0} (nodes : HashMap DomainName (OneOrMany RRset) S) (owners : BTreeMap DomainName (Unit {0})) (kept : IsKept owners nodes) where
  -- Something is under the key of each owner.
  filled_node : (o : Option (OneOrMany RRset)) → 0 < length (held_sets o) → IsSome o
  filled_node None full = absurd (omega (arith, full))
  filled_node (Some node) full = refl

  under_owner : (name : DomainName) → is_some (get name_cmp owners name) ≡ is_some (hashed name_eq nodes name)
  under_owner name =
      same_tests (is_some (get name_cmp owners name)) (is_some (hashed name_eq nodes name))
      (λ some. filled_node (hashed name_eq nodes name) (kept.each name some).filled) (kept.known name)

  pub are_owners : (zone : List RRset) → sets_in nodes owners.entries ≡ zone → AreOwners zone (keys_of owners.entries)
  are_owners zone view = record {
    ordered = kept.ordered;
    each = λ name.
        among_keys name owners.entries ∙ under_owner name ∙ sym (mapped items_of (hashed name_eq nodes name)) ∙ ap is_some (owned_as nodes owners kept zone view name)
        ∙ some_owned zone name;
  }
