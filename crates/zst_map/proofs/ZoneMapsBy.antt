-- What the map's own calls say of a zone.
use Rattle.std.proofs.Common.{◌≡◌, ℕ, ◌∙◌, sym, ap, subst}
use Rattle.std.specs.Prelude.{Bool, true, List, ◌∷◌, ◌&&◌, Option, Some, None, cond}
use Rattle.std.specs.Bool.{beq}
use Rattle.std.specs.List.{filter}
use Rattle.std.specs.List.Sorted.{IsStrictlySortedBy}
use Rattle.std.specs.Map.{keys_of, lookup}
use Rattle.std.specs.BTreeMap.{is_at}
use Rattle.std.specs.Ordering.{is_eq, is_le}
use Rattle.std.specs.declared.cmp.Ordering.{Ordering}
use Rattle.zst_handler.specs.dnw_name.DomainName.{DomainName, is_at_or_below, name_cmp}
use Rattle.zst_key.specs.NameKeys.{name_key}
use Rattle.zst_key.specs.declared.key.NameKey.{NameKey}
use Rattle.zst_key.proofs.KeyLemmas.{key-below}
use Rattle.zst_key.proofs.KeyOrder.{key-order, keys-order}
use Rattle.zst_handler.specs.zst_record.RecordSets.{RRset}
use Rattle.zst_handler.specs.Lookups.{sets_of_name}
use Rattle.zst_handler.specs.Zones.{rrset_at}
use Rattle.zst_map.specs.ZoneMaps.{exists_alike}
use Rattle.zst_map.proofs.Entries.{IsZone, sets_of}
use Rattle.zst_map.proofs.Keys.{begins, begins-starts_with}
use Rattle.zst_handler.specs.Updates.{set_of_type}
use Rattle.zst_map.specs.Changes.{owner_of, type_in}
use Rattle.zst_map.specs.declared.change.Change.{Change}
use Rattle.zst_map.proofs.ZoneEntries.{at_key, key_cmp, node_sets, stored_at}
use Rattle.zst_map.proofs.NamedSets.{named_in}
use Rattle.zst_map.proofs.Places.{first_at, found_from, there_exists}
use Rattle.zst_map.proofs.ZoneNodes.{exists_from, first_begins, from_key}

abbrev pub Node : Type 0
Node = List RRset

abbrev pub sets : Node → List RRset
sets node = node

abbrev pub Entries : Type 0
Entries = List (NameKey × Node)

-- The order of names is that of their keys.
pub looked_by_key : (key : DomainName) (entries : Entries) → lookup (is_at (name_cmp key)) entries ≡ lookup (at_key name_key sets (name_key key)) entries
looked_by_key key entries = ap (λ (R : DomainName → DomainName → Ordering). lookup (is_at (R key)) entries) (sym keys-order)

pub from_by_key : (key : DomainName) (entries : Entries) → filter (λ (e : NameKey × Node). is_le (name_cmp key e.0) && true) entries ≡ from_key name_key sets (name_key key) entries
from_by_key key entries = ap (λ (R : DomainName → DomainName → Ordering). filter (λ (e : NameKey × Node). is_le (R key e.0) && true) entries) (sym keys-order)

pub sorted_by_key : (entries : Entries) → IsStrictlySortedBy name_cmp (keys_of entries) → IsStrictlySortedBy (key_cmp name_key sets) (keys_of entries)
sorted_by_key entries = subst (λ (R : DomainName → DomainName → Ordering). IsStrictlySortedBy R (keys_of entries)) (sym keys-order)

pub named_by : (entries : Entries) (zone : List RRset) (key : DomainName) (found : Option Node)
    → IsZone name_key sets entries → sets_of name_key sets entries ≡ zone → found ≡ lookup (is_at (name_cmp key)) entries
    → node_sets name_key sets found ≡ sets_of_name zone key
named_by entries zone key found is view e =
    ap (node_sets name_key sets) (e ∙ looked_by_key key entries)
    ∙ sym (named_in name_key sets key entries is.nodes is.ordered)
    ∙ ap (λ (z : List RRset). sets_of_name z key) view

pub exists_by : (entries : Entries) (zone : List RRset) (key : DomainName) (result : Bool)
    → IsZone name_key sets entries → sets_of name_key sets entries ≡ zone → result ≡ first_begins name_key sets (name_key key) (from_key name_key sets (name_key key) entries)
    → result ≡ exists_alike zone key
exists_by entries zone key result is view e =
    e ∙ sym (exists_from name_key sets key entries is.nodes is.ordered)
    ∙ ap (λ (z : List RRset). exists_alike z key) view

-- The test of the code, as the key's octets say it.
pub begins_by : (key owner : DomainName) (b : Bool) → b ≡ (beq owner.fqdn key.fqdn && is_at_or_below owner key) → begins (name_key key) (name_key owner) ≡ b
begins_by key owner b e = begins-starts_with (name_key key) (name_key owner) ∙ key-below owner key ∙ sym e

-- The set of a change's owner and type is among those under its key.
pub set_there : (entries : Entries) (zone : List RRset) (key : DomainName) (change : Change) (there : Option Node) → IsZone name_key sets entries → sets_of name_key sets entries ≡ zone
    → name_key key ≡ name_key (owner_of change) → there ≡ lookup (at_key name_key sets (name_key key)) entries
    → rrset_at zone (owner_of change) (type_in change) ≡ set_of_type (type_in change) (node_sets name_key sets there)
set_there entries zone key change there is view same found =
    sym (ap (λ (z : List RRset). rrset_at z (owner_of change) (type_in change)) view)
    ∙ stored_at name_key sets entries (owner_of change) (type_in change) is
    ∙ ap (λ (q : List ℕ). set_of_type (type_in change) (node_sets name_key sets (lookup (at_key name_key sets q) entries))) (sym same)
    ∙ ap (λ (o : Option Node). set_of_type (type_in change) (node_sets name_key sets o)) (sym found)

-- ---- what stands at a name
abbrev pub from_in : DomainName → Entries → Entries
from_in key entries = filter (λ (e : NameKey × Node). is_le (name_cmp key e.0) && true) entries

first_in : (entries : Entries) (key : DomainName) (first : Entries) → IsZone name_key sets entries
    → from_in key entries ≡ first → first_at name_key sets (name_key key) first ≡ lookup (is_at (name_cmp key)) entries
first_in entries key first is from =
    sym (looked_by_key key entries ∙ found_from name_key sets (name_key key) entries is.ordered
    ∙ ap (first_at name_key sets (name_key key)) (sym (from_by_key key entries) ∙ from))

-- The first key is this one.
pub found_first : (entries : Entries) (key : DomainName) (owner : NameKey) (node : Node) (later : Entries) → IsZone name_key sets entries
    → from_in key entries ≡ (owner, node) ∷ later → is_eq (name_cmp key owner) ≡ true → Some node ≡ lookup (is_at (name_cmp key)) entries
found_first entries key owner node later is from same =
    sym (ap (λ (b : Bool). cond b (Some node) None) (ap is_eq (key-order key owner) ∙ same)) ∙ first_in entries key ((owner, node) ∷ later) is from

-- A name under which something stands exists.
pub exists_there : (entries : Entries) (zone : List RRset) (key : DomainName) (node : Node) → IsZone name_key sets entries → sets_of name_key sets entries ≡ zone
    → Some node ≡ lookup (is_at (name_cmp key)) entries → true ≡ exists_alike zone key
exists_there entries zone key node is view there =
    sym (there_exists name_key sets key entries node is.nodes is.ordered (sym (looked_by_key key entries) ∙ sym there))
    ∙ ap (λ (z : List RRset). exists_alike z key) view
