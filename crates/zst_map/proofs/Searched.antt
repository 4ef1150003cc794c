-- What a search of the sets of a zone comes to.
use Rattle.std.proofs.Common.{◌≡◌, ℕ, ◌<◌, length, drop, refl, ap, sym, ◌∙◌, arith}
use Rattle.std.specs.Prelude.{Bool, true, false, ◌==◌, List, [], ◌∷◌, Option, Some, None, is_some, IsSome, cond, find, option_map, option_copied, IfSome}
use Rattle.std.specs.Option.{option_flatten}
use Rattle.std.specs.BTreeMap.{BTreeMap, btree_map_len, get, is_at}
use Rattle.std.specs.Map.{lookup}
use Rattle.std.specs.Borrow.{Bor}
use Rattle.std.proofs.lemmas.Bool.{true≢false, eqb-true}
use Rattle.zst_handler.specs.dnw_codes.declared.record_type.RecordType.{RecordType}
use Rattle.zst_handler.specs.dnw_codes.declared.record_type.RecordType.TheVariants as kind
use Rattle.zst_handler.specs.dnw_codes.RecordType.{same_record_type}
use Rattle.zst_handler.specs.dnw_name.DomainName.{DomainName, domain_name, lowercase_name, name_cmp}
use Rattle.zst_handler.specs.zst_record.RecordSets.{RRset, renamed}
use Rattle.zst_key.specs.Ancestors.{nearest_from, nearest_in, or_else, parent, star}
use Rattle.zst_handler.specs.Found.{above, cut_at, cut_found, delegation, found, found_set, here, is_address, nearest_above, wildcard_answer}
use Rattle.zst_handler.specs.Lookups.{sets_of_name}
use Rattle.zst_handler.specs.Zones.{rrset_at}
use Rattle.zst_map.specs.Searches.{lent, looked_for, sought_in}
use Rattle.zst_map.specs.declared.zone_sets.Sought.TheVariants as seeks
use Rattle.zst_map.proofs.NamedSets.{type_among}
use Rattle.zst_map.proofs.NearestOf.{above_parent, nearest_above_it, nearest_here}
use Rattle.zst_map.proofs.ZoneNodes.{is_of_type}

-- ---- what is lent
pub copied_flat : (found : Option (Option (Bor RRset))) → option_copied (option_flatten found) ≡ option_flatten (lent found)
copied_flat None = refl
copied_flat (Some found) = refl

pub flat_cut : (found : Option (DomainName × Option RRset)) → looked_for found ≡ cut_found found
flat_cut None = refl
flat_cut (Some at) = refl

-- ---- the wildcard of the nearest name that has an answer below it
some_found : (at : DomainName → Option RRset) (name : DomainName) → Option (Option RRset)
some_found at name = option_map (λ set. Some set) (at name)

one_found : (name : DomainName) (o : Option RRset) (rest : Option (DomainName × Option RRset)) (other : Option (DomainName × RRset)) → looked_for rest ≡ found_set other
    → looked_for (or_else (option_map (λ x. (name, x)) (option_map (λ set. Some set) o)) rest) ≡ found_set (or_else (option_map (λ x. (name, x)) o) other)
one_found name None rest other e = e
one_found name (Some set) rest other e = refl

last_found : (name : DomainName) (o : Option RRset) → looked_for (option_map (λ x. (name, x)) (option_map (λ set. Some set) o)) ≡ found_set (option_map (λ x. (name, x)) o)
last_found name None = refl
last_found name (Some set) = refl

stars_from : (at : DomainName → Option RRset) (fqdn : Bool) (labels : List (List ℕ))
    → looked_for (nearest_from (λ name. option_map (λ set. Some set) (at name)) fqdn labels) ≡ found_set (nearest_from at fqdn labels)
stars_from at fqdn [] = last_found (domain_name fqdn []) (at (domain_name fqdn []))
stars_from at fqdn (label ∷ labels) =
    one_found (domain_name fqdn (label ∷ labels)) (at (domain_name fqdn (label ∷ labels)))
    (nearest_from (λ name. option_map (λ set. Some set) (at name)) fqdn labels) (nearest_from at fqdn labels) (stars_from at fqdn labels)

stars_above : (at : DomainName → Option RRset) (fqdn : Bool) (labels : List (List ℕ))
    → looked_for (nearest_above (λ name. option_map (λ set. Some set) (at name)) fqdn labels) ≡ found_set (nearest_above at fqdn labels)
stars_above at fqdn [] = refl
stars_above at fqdn (label ∷ labels) = stars_from at fqdn labels

pub wildcard_found : (sets : List RRset) (key : DomainName) (t : RecordType)
    → option_map (renamed (lowercase_name key)) (looked_for (above (sought_in sets (seeks.Wildcard t)) key)) ≡ wildcard_answer sets key t
wildcard_found sets key t = ap (option_map (renamed (lowercase_name key))) (stars_above (λ ancestor. here sets t (star ancestor)) key.fqdn key.labels)

-- ---- where all owners of NS have an SOA, nothing is handed over
not_cut : (servers soa : Option RRset) → (IsSome servers → IsSome soa) → option_flatten (option_map (λ (set : RRset). cond (is_some soa) None (Some set)) servers) ≡ None
not_cut None soa beside = refl
not_cut (Some set) None beside = absurd (true≢false (sym (beside refl)))
not_cut (Some set) (Some other) beside = refl

cut_step : (name : DomainName) (o : Option (Option RRset)) (rest : Option (DomainName × Option RRset)) → option_flatten o ≡ None → cut_found rest ≡ None
    → cut_found (or_else (option_map (λ x. (name, x)) o) rest) ≡ None
cut_step name None rest e more = more
cut_step name (Some servers) rest e more = e

cut_last : (name : DomainName) (o : Option (Option RRset)) → option_flatten o ≡ None → cut_found (option_map (λ x. (name, x)) o) ≡ None
cut_last name None e = refl
cut_last name (Some servers) e = e

module _ (sets : List RRset) (beside : (name : DomainName) → IsSome (rrset_at sets name kind.NS) → IsSome (rrset_at sets name kind.SOA)) where
  never_cut : (name : DomainName) → option_flatten (cut_at sets name) ≡ None
  never_cut name = not_cut (rrset_at sets name kind.NS) (rrset_at sets name kind.SOA) (beside name)

  none_from : (fqdn : Bool) (labels : List (List ℕ)) → cut_found (nearest_from (cut_at sets) fqdn labels) ≡ None
  none_from fqdn [] = cut_last (domain_name fqdn []) (cut_at sets (domain_name fqdn [])) (never_cut (domain_name fqdn []))
  none_from fqdn (label ∷ labels) =
      cut_step (domain_name fqdn (label ∷ labels)) (cut_at sets (domain_name fqdn (label ∷ labels))) (nearest_from (cut_at sets) fqdn labels)
      (never_cut (domain_name fqdn (label ∷ labels))) (none_from fqdn labels)

  none_above : (fqdn : Bool) (labels : List (List ℕ)) → cut_found (nearest_above (cut_at sets) fqdn labels) ≡ None
  none_above fqdn [] = refl
  none_above fqdn (label ∷ labels) = none_from fqdn labels

  pub no_delegation : (name : DomainName) (t : RecordType) → delegation sets name t ≡ None
  no_delegation name t = by (same_record_type t kind.DS)
    where
      by : (b : Bool) → cond b (cut_found (above (cut_at sets) name)) (cut_found (nearest_in (cut_at sets) name)) ≡ None
      by true = none_above name.fqdn name.labels
      by false = none_from name.fqdn name.labels

-- ---- what a name's own sets answer where there is no cut
pub uncut_found : (sets : List RRset) (name : DomainName) (t : RecordType) (own : Option (Bor RRset)) → delegation sets name t ≡ None → option_copied own ≡ here sets t name
    → IfSome own (λ set. found sets name t ≡ Some set.now)
uncut_found sets name t None uncut same = tt
uncut_found sets name t (Some set) uncut same =
    ap (λ (cut : Option RRset). or_else cut (or_else (here sets t name) (wildcard_answer sets name t))) uncut
    ∙ ap (λ (at : Option RRset). or_else at (wildcard_answer sets name t)) (sym same)

-- ---- what a name's own sets answer
pub own_found : (zone sets : List RRset) (name : DomainName) (t : RecordType) → sets ≡ sets_of_name zone name → find (is_of_type t) sets ≡ rrset_at zone name t
own_found zone sets name t e = ap (find (is_of_type t)) e ∙ sym (type_among zone name t)

pub first_here : (zone : List RRset) (name : DomainName) (t : RecordType) (set : RRset) → rrset_at zone name t ≡ Some set → here zone t name ≡ Some set
first_here zone name t set e =
    ap (λ (o : Option RRset). or_else o (or_else (rrset_at zone name kind.CNAME) (cond (is_address t) (rrset_at zone name kind.ANAME) None))) e

pub alias_here : (zone : List RRset) (name : DomainName) (t : RecordType) (set : RRset) → rrset_at zone name t ≡ None → rrset_at zone name kind.CNAME ≡ Some set
    → here zone t name ≡ Some set
alias_here zone name t set none e =
    ap (λ (o : Option RRset). or_else o (or_else (rrset_at zone name kind.CNAME) (cond (is_address t) (rrset_at zone name kind.ANAME) None))) none
    ∙ ap (λ (o : Option RRset). or_else o (cond (is_address t) (rrset_at zone name kind.ANAME) None)) e

pub address_here : (zone : List RRset) (name : DomainName) (t : RecordType) (b : Bool) → rrset_at zone name t ≡ None → rrset_at zone name kind.CNAME ≡ None
    → b ≡ is_address t → here zone t name ≡ cond b (rrset_at zone name kind.ANAME) None
address_here zone name t b none other e =
    ap (λ (o : Option RRset). or_else o (or_else (rrset_at zone name kind.CNAME) (cond (is_address t) (rrset_at zone name kind.ANAME) None))) none
    ∙ ap (λ (o : Option RRset). or_else o (cond (is_address t) (rrset_at zone name kind.ANAME) None)) other
    ∙ ap (λ (w : Bool). cond w (rrset_at zone name kind.ANAME) None) (sym e)

pub cut_there : (zone : List RRset) (name : DomainName) (servers soa : Option RRset) → servers ≡ rrset_at zone name kind.NS → soa ≡ rrset_at zone name kind.SOA
    → option_map (λ (set : RRset). cond (is_some soa) None (Some set)) servers ≡ cut_at zone name
cut_there zone name servers soa e f =
    ap (λ (o : Option RRset). option_map (λ (set : RRset). cond (is_some o) None (Some set)) servers) f
    ∙ ap (option_map (λ (set : RRset). cond (is_some (rrset_at zone name kind.SOA)) None (Some set))) e

-- ---- nearest names
module _ (f : DomainName → Option (Option RRset)) where
  pub found_here : (owner : DomainName) (found : Option (Option RRset)) → found ≡ f owner → is_some found ≡ true → option_map (λ (at : DomainName × Option RRset). at.1) (nearest_in f owner) ≡ found
  found_here owner None e some = absurd (true≢false (sym some))
  found_here owner (Some x) e some = ap (option_map (λ (at : DomainName × Option RRset). at.1)) (nearest_here f owner x (sym e))

  pub found_above : (owner : DomainName) (found : Option (Option RRset)) → found ≡ f owner → is_some found ≡ false → nearest_in f owner ≡ above f owner
  found_above owner None e none = nearest_above_it f owner (sym e)
  found_above owner (Some x) e none = absurd (true≢false none)

pub lent_some : (found : Option (Option (Bor RRset))) → is_some (lent found) ≡ is_some found
lent_some None = refl
lent_some (Some found) = refl

pub shorter : (name : DomainName) → (name.labels ≡ [] → ⊥) → length (parent name).labels < length name.labels
shorter name some = by name.labels refl
  where
    by : (labels : List (List ℕ)) → name.labels ≡ labels → length (drop 1 labels) < length labels
    by [] e = absurd (some e)
    by (label ∷ labels) e = omega arith

-- ---- where nothing is, nothing is the nearest
nothing_from : (f : DomainName → Option (Option RRset)) → ((name : DomainName) → f name ≡ None) → (fqdn : Bool) (labels : List (List ℕ)) → nearest_from f fqdn labels ≡ None
nothing_from f none fqdn [] = ap (option_map (λ (x : Option RRset). (domain_name fqdn [], x))) (none (domain_name fqdn []))
nothing_from f none fqdn (label ∷ labels) =
    ap (λ (o : Option (Option RRset)). or_else (option_map (λ x. (domain_name fqdn (label ∷ labels), x)) o) (nearest_from f fqdn labels)) (none (domain_name fqdn (label ∷ labels)))
    ∙ nothing_from f none fqdn labels

nothing_above : (f : DomainName → Option (Option RRset)) → ((name : DomainName) → f name ≡ None) → (fqdn : Bool) (labels : List (List ℕ)) → nearest_above f fqdn labels ≡ None
nothing_above f none fqdn [] = refl
nothing_above f none fqdn (label ∷ labels) = nothing_from f none fqdn labels

never_some : {X : Type 0} (o : Option X) → (IsSome o → ⊥) → o ≡ None
never_some None never = refl
never_some (Some x) never = absurd (never refl)

empty_get : (names : BTreeMap DomainName (Unit {0})) (name : DomainName) → btree_map_len names ≡ 0 → get name_cmp names name ≡ None
empty_get names name e = by names.entries e
  where
    by : (entries : List (DomainName × Unit {0})) → length entries ≡ 0 → lookup (is_at (name_cmp name)) entries ≡ None
    by [] e = refl
    by (entry ∷ entries) e = absurd (omega (arith, e))

address_none : (b : Bool) (o : Option RRset) → o ≡ None → cond b o None ≡ None
address_none true o e = e
address_none false o e = refl

pub no_sets : (sets : List RRset) → true ≡ (length sets == 0) → sets ≡ []
no_sets [] e = refl
no_sets (set ∷ sets) e =
    let none : length (set ∷ sets) ≡ 0 = eqb-true (length (set ∷ sets)) 0 (sym e) in
    absurd (omega (arith, none))

pub nothing_here : (zone : List RRset) (name : DomainName) (t : RecordType) → ((u : RecordType) → rrset_at zone name u ≡ None) → here zone t name ≡ None
nothing_here zone name t none =
    address_here zone name t (is_address t) (none t) (none kind.CNAME) refl
    ∙ address_none (is_address t) (rrset_at zone name kind.ANAME) (none kind.ANAME)

pub no_wildcard : (zone : List RRset) (names : BTreeMap DomainName (Unit {0})) (key : DomainName) (t : RecordType) → btree_map_len names ≡ 0
    → ((name : DomainName) (type : RecordType) → IsSome (rrset_at zone (star name) type) → IsSome (get name_cmp names name))
    → looked_for (above (sought_in zone (seeks.Wildcard t)) key) ≡ None
no_wildcard zone names key t empty stars = ap looked_for (nothing_above (sought_in zone (seeks.Wildcard t)) nothing key.fqdn key.labels)
  where
    none : (name : DomainName) (type : RecordType) → rrset_at zone (star name) type ≡ None
    none name type = never_some (rrset_at zone (star name) type) (λ some. true≢false (sym (stars name type some) ∙ ap is_some (empty_get names name empty)))

    nothing : (name : DomainName) → sought_in zone (seeks.Wildcard t) name ≡ None
    nothing name = ap (option_map (λ (set : RRset). Some set)) (nothing_here zone (star name) t (none name))

pub third_found : (zone : List RRset) (key : DomainName) (t : RecordType) → delegation zone key t ≡ None → here zone t key ≡ None → found zone key t ≡ wildcard_answer zone key t
third_found zone key t first second =
    ap (λ (o : Option RRset). or_else o (or_else (here zone t key) (wildcard_answer zone key t))) first
    ∙ ap (λ (o : Option RRset). or_else o (wildcard_answer zone key t)) second

-- ---- a cut at a name, or right above it
not_parents : (sets : List RRset) (key : DomainName) (t : RecordType) → same_record_type t kind.DS ≡ false → delegation sets key t ≡ cut_found (nearest_in (cut_at sets) key)
not_parents sets key t other = ap (λ (b : Bool). cond b (cut_found (above (cut_at sets) key)) (cut_found (nearest_in (cut_at sets) key))) other

pub cut_itself : (sets : List RRset) (key : DomainName) (t : RecordType) (servers : Option RRset) → same_record_type t kind.DS ≡ false → cut_at sets key ≡ Some servers
    → servers ≡ delegation sets key t
cut_itself sets key t servers other there = ap cut_found (sym (nearest_here (cut_at sets) key servers there)) ∙ sym (not_parents sets key t other)

pub cut_right_above : (sets : List RRset) (key : DomainName) (t : RecordType) (servers : Option RRset) → same_record_type t kind.DS ≡ false → cut_at sets key ≡ None
    → cut_at sets (parent key) ≡ Some servers → servers ≡ delegation sets key t
cut_right_above sets key t servers other none there = by key.labels refl
  where
    by : (labels : List (List ℕ)) → key.labels ≡ labels → servers ≡ delegation sets key t
    by [] e =
        let root : parent key ≡ key = ap (λ (ls : List (List ℕ)). domain_name key.fqdn (drop 1 ls)) e ∙ sym (ap (domain_name key.fqdn) e) in
        let h : None ≡ Some servers = sym none ∙ ap (cut_at sets) (sym root) ∙ there in
        absurd (cc)
    by (label ∷ labels) e =
        let some : key.labels ≡ [] → ⊥ = λ empty. let h : label ∷ labels ≡ [] = sym e ∙ empty in absurd (cc) in
        ap cut_found (sym (nearest_here (cut_at sets) (parent key) servers there)
        ∙ sym (nearest_above_it (cut_at sets) key none ∙ above_parent (cut_at sets) key some)) ∙ sym (not_parents sets key t other)
