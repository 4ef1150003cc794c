-- A zone without one set: what the map's own calls say of it.
use Rattle.std.proofs.Common.{◌≡◌, ℕ, ◌∙◌, refl, sym, ap, subst}
use Rattle.std.specs.Prelude.{Bool, true, false, List, [], ◌∷◌, Option, Some, None, cond, find}
use Rattle.std.specs.BTreeMap.{is_at}
use Rattle.std.specs.Map.{lookup}
use Rattle.std.specs.Str.{bytes_eq}
use Rattle.std.proofs.lemmas.Bool.{true≢false}
use Rattle.zst_handler.specs.dnw_codes.declared.record_type.RecordType.{RecordType}
use Rattle.zst_handler.specs.dnw_codes.RecordType.{same_record_type}
use Rattle.zst_handler.specs.dnw_name.DomainName.{DomainName, name_cmp}
use Rattle.zst_handler.specs.dnw_name.NameOrderLaws.{name_eq-by_cmp}
use Rattle.zst_handler.specs.zst_record.RecordLaws.{name_eq_equiv}
use Rattle.zst_handler.specs.zst_record.RecordSets.{RRset}
use Rattle.zst_key.specs.NameKeys.{name_key}
use Rattle.zst_handler.specs.Updates.{Replaces, set_of_type, without_type}
use Rattle.zst_handler.specs.Zones.{rrset_at}
use Rattle.zst_map.specs.Changes.{is_only}
use Rattle.zst_map.specs.ZoneMaps.{IsNode}
use Rattle.zst_map.proofs.Entries.{IsZone, sets_of}
use Rattle.zst_map.proofs.Keys.{same_key}
use Rattle.zst_map.proofs.NodeSets.{find_without}
use Rattle.zst_map.proofs.ZoneEntries.{at_key, node_found, node_sets, replaced, same_octets, stored_at}
use Rattle.zst_map.proofs.ZoneMapsBy.{Entries, Node, looked_by_key, sets}
use Rattle.zst_map.proofs.ZoneNodes.{is_of_type}

-- ---- keys of names, as the map's calls compare them
tested : (key name : DomainName) → is_at (name_cmp key) name ≡ bytes_eq (name_key name) (name_key key)
tested key name = sym (name_eq-by_cmp key name) ∙ name_eq_equiv.symm key name ∙ sym (same_key name key)

pub updated : (old new : Entries) (key : DomainName) (o : Option Node)
    → ((q : DomainName) → lookup (is_at (name_cmp q)) new ≡ cond (is_at (name_cmp key) q) o (lookup (is_at (name_cmp q)) old))
    → (name : DomainName) → lookup (at_key name_key sets (name_key name)) new ≡ cond (bytes_eq (name_key name) (name_key key)) o (lookup (at_key name_key sets (name_key name)) old)
updated old new key o looked name =
    sym (looked_by_key name new) ∙ looked name
    ∙ ap (λ (b : Bool). cond b o (lookup (is_at (name_cmp name)) old)) (tested key name)
    ∙ ap (λ (u : Option Node). cond (bytes_eq (name_key name) (name_key key)) o u) (looked_by_key name old)

-- ---- the owner's only set
only_without : (ss : List RRset) (t : RecordType) → is_only ss t ≡ true → without_type ss t ≡ []
only_without [] t one = absurd (true≢false (sym one))
only_without (s ∷ []) t one = ap (λ (b : Bool). cond b [] (s ∷ [])) one
only_without (s ∷ u ∷ ss) t one = absurd (true≢false (sym one))

-- ---- what stands under the key
pub node_at : (entries : Entries) (key : DomainName) (v : Node) → IsZone name_key sets entries → Some v ≡ lookup (is_at (name_cmp key)) entries → IsNode (name_key key) v
node_at entries key v is there = node_found name_key sets (name_key key) entries v is.nodes (sym (looked_by_key key entries) ∙ sym there)

pub set_taken : (entries : Entries) (zone : List RRset) (key : DomainName) (t : RecordType) (o : Option Node) → IsZone name_key sets entries → sets_of name_key sets entries ≡ zone
    → o ≡ lookup (is_at (name_cmp key)) entries → rrset_at zone key t ≡ set_of_type t (node_sets name_key sets o)
set_taken entries zone key t o is view there =
    sym (ap (λ (z : List RRset). rrset_at z key t) view)
    ∙ stored_at name_key sets entries key t is
    ∙ ap (λ (u : Option Node). set_of_type t (node_sets name_key sets u)) (sym (looked_by_key key entries) ∙ sym there)

-- ---- the zone after
none_there : (t u : RecordType) → find (is_of_type u) [] ≡ cond (same_record_type t u) None (find (is_of_type u) [])
none_there t u = by (same_record_type t u)
  where
    by : (b : Bool) → find (is_of_type u) [] ≡ cond b None None
    by true = refl
    by false = refl

pub removes_only : (old new : Entries) (zone : List RRset) (key : DomainName) (t : RecordType) (v : Node) → IsZone name_key sets old → IsZone name_key sets new → sets_of name_key sets old ≡ zone
    → Some v ≡ lookup (is_at (name_cmp key)) old → is_only v t ≡ true
    → ((q : DomainName) → lookup (is_at (name_cmp q)) new ≡ cond (is_at (name_cmp key) q) None (lookup (is_at (name_cmp q)) old))
    → Replaces zone key t None (sets_of name_key sets new)
removes_only old new zone key t v was is view there one looked =
    subst (λ (z : List RRset). Replaces z key t None (sets_of name_key sets new)) view
    (replaced name_key sets old new key t None None was is (updated old new key None looked)
    (λ u. ap (find (is_of_type u)) (sym (only_without v t one)) ∙ find_without t u v (node_at old key v was there).rise
    ∙ ap (λ (o : Option Node). cond (same_record_type t u) None (find (is_of_type u) (node_sets name_key sets o))) (there ∙ looked_by_key key old)))

pub removes_among : (old new : Entries) (zone : List RRset) (key : DomainName) (t : RecordType) (v w : Node) → IsZone name_key sets old → IsZone name_key sets new → sets_of name_key sets old ≡ zone
    → Some v ≡ lookup (is_at (name_cmp key)) old → w ≡ without_type v t
    → ((q : DomainName) → lookup (is_at (name_cmp q)) new ≡ cond (is_at (name_cmp key) q) (Some w) (lookup (is_at (name_cmp q)) old))
    → Replaces zone key t None (sets_of name_key sets new)
removes_among old new zone key t v w was is view there left looked =
    subst (λ (z : List RRset). Replaces z key t None (sets_of name_key sets new)) view
    (replaced name_key sets old new key t None (Some w) was is (updated old new key (Some w) looked)
    (λ u. ap (find (is_of_type u)) left ∙ find_without t u v (node_at old key v was there).rise
    ∙ ap (λ (o : Option Node). cond (same_record_type t u) None (find (is_of_type u) (node_sets name_key sets o))) (there ∙ looked_by_key key old)))

-- nothing is there
pub removes_none : (old : Entries) (zone : List RRset) (key : DomainName) (t : RecordType) → IsZone name_key sets old → sets_of name_key sets old ≡ zone
    → None ≡ lookup (is_at (name_cmp key)) old → Replaces zone key t None zone
removes_none old zone key t is view there =
    subst (λ (z : List RRset). Replaces z key t None z) view
    (replaced name_key sets old old key t None None is is
    (λ name. by name (bytes_eq (name_key name) (name_key key)) refl)
    (λ u. none_there t u ∙ ap (λ (o : Option Node). cond (same_record_type t u) None (find (is_of_type u) (node_sets name_key sets o))) (there ∙ looked_by_key key old)))
  where
    same : (name : DomainName) → bytes_eq (name_key name) (name_key key) ≡ true → lookup (at_key name_key sets (name_key name)) old ≡ None
    same name e = ap (λ (q : List ℕ). lookup (at_key name_key sets q) old) (same_octets (name_key name) (name_key key) e) ∙ sym (there ∙ looked_by_key key old)

    by : (name : DomainName) (b : Bool) → bytes_eq (name_key name) (name_key key) ≡ b
        → lookup (at_key name_key sets (name_key name)) old ≡ cond b None (lookup (at_key name_key sets (name_key name)) old)
    by name true e = same name e
    by name false e = refl
