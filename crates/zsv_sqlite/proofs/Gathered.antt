-- Prerequisites of class IN, gathered by their sets: each set is asked once for all of its own.
use Rattle.std.proofs.Common.{◌≡◌, ℕ, Bor, refl, ap, sym, subst, ◌∙◌, arith}
use Rattle.std.specs.Prelude.{Bool, true, false, not, ◌&&◌, ◌||◌, ◌==◌, List, [], ◌∷◌, ◌++◌, Option, Some, None, cond, filter, find, map, nat_lt, option_map}
use Rattle.std.specs.BTreeMap.{BTreeMap, IsOrdered, get, is_at}
use Rattle.std.specs.Cmp.{IsEquivalence}
use Rattle.std.specs.List.{AllByRecursion, list_all}
use Rattle.std.specs.List.Sorted.{IsStrictlySortedBy}
use Rattle.std.specs.Map.{keys_of, lookup}
use Rattle.std.specs.Ordering.{is_eq, nat_cmp, ordering_then}
use Rattle.std.specs.declared.cmp.Ordering.{Ordering}
use Rattle.std.specs.declared.cmp.Ordering.TheVariants.{Less, Equal, Greater}
use Rattle.std.proofs.lemmas.Bool.{and_from, and_parts, eqb-true, ltb-true, true≢false}
use Rattle.std.proofs.lemmas.Cmp.{and_equiv, nat_eq_equiv, on_equiv}
use Rattle.zst_map.specs.dnw_codes.RecordType.{record_type_cmp, record_type_number, same_record_type}
use Rattle.zst_map.specs.dnw_name.DomainName.{DomainName, lowercase_name, name_cmp, name_eq}
use Rattle.zst_map.specs.dnw_name.NameOrderLaws.{name_eq-by_cmp}
use Rattle.zst_map.specs.drd_rdata.Types.{type_of}
use Rattle.zst_map.specs.zst_handler.Zones.{rrset_at}
use Rattle.zst_map.specs.zst_record.RecordLaws.{name_eq_equiv}
use Rattle.zst_map.specs.zst_record.RecordSets.{RRset, none_left}
use Rattle.zst_map.specs.zst_record.declared.records.Record.{Record}
use Rattle.zst_map.proofs.Indexed.{rrset_same}
use Rattle.zst_request.specs.Prerequisites.{has_exactly, is_met, is_valued}
use Rattle.zst_draft.proofs.Names.{eq_lower}
use Rattle.zsv_sqlite.specs.Groups.{Gathers, Group, is_group_met, is_met_by, is_of_set, key_cmp, records_of, unless_none}
use Rattle.zsv_sqlite.specs.declared.groups.SetKey.{SetKey}

-- ---- keys
abbrev same : SetKey → SetKey → Bool
same a b = name_eq a.owner b.owner && same_record_type a.record_type b.record_type

same_equiv : IsEquivalence same
same_equiv = and_equiv (on_equiv (λ (k : SetKey). k.owner) name_eq_equiv) (on_equiv (λ (k : SetKey). k.record_type) (on_equiv record_type_number nat_eq_equiv))

then_eq : (a b : Ordering) → is_eq (ordering_then a b) ≡ (is_eq a && is_eq b)
then_eq Less b = refl
then_eq Equal b = refl
then_eq Greater b = refl

number_eq : (m n : ℕ) → is_eq (nat_cmp m n) ≡ (m == n)
number_eq m n = by (nat_lt m n) (m == n) refl refl
  where
    by : (b c : Bool) → nat_lt m n ≡ b → (m == n) ≡ c → is_eq (cond b Less (cond c Equal Greater)) ≡ c
    by true true below alike = absurd (omega (arith, ltb-true m n below, eqb-true m n alike))
    by true false below alike = refl
    by false true below alike = refl
    by false false below alike = refl

pub key_eq : (a b : SetKey) → is_eq (key_cmp a b) ≡ same a b
key_eq a b =
    then_eq (name_cmp a.owner b.owner) (record_type_cmp a.record_type b.record_type)
    ∙ ap (λ (x : Bool). x && is_eq (record_type_cmp a.record_type b.record_type)) (sym (name_eq-by_cmp a.owner b.owner))
    ∙ ap (λ (x : Bool). name_eq a.owner b.owner && x) (number_eq (record_type_number a.record_type) (record_type_number b.record_type))

-- The key of a record's set.
abbrev key_of : Record → SetKey
key_of r = record { owner = r.name; record_type = type_of r.rdata }

abbrev at : SetKey → List (SetKey × Group) → Option Group
at key es = lookup (is_at (key_cmp key)) es

at_alike : (a b : SetKey) (es : List (SetKey × Group)) → same a b ≡ true → at a es ≡ at b es
at_alike a b [] alike = refl
at_alike a b (e ∷ es) alike =
    ap (λ (c : Bool). cond c (Some e.1) (at a es)) (key_eq a e.0 ∙ same_equiv.congr a b e.0 alike ∙ sym (key_eq b e.0))
    ∙ ap (cond (is_eq (key_cmp b e.0)) (Some e.1)) (at_alike a b es alike)

-- ---- entries in order
later_apart : (k later : SetKey) → key_cmp k later ≡ Less → is_eq (key_cmp later k) ≡ false
later_apart k later less = key_eq later k ∙ same_equiv.symm later k ∙ sym (key_eq k later) ∙ ap is_eq less

later_own : (e : SetKey × Group) (es later : List (SetKey × Group)) → AllByRecursion (λ k. key_cmp e.0 k ≡ Less) (keys_of later) → AllByRecursion (λ d. at d.0 es ≡ Some d.1) later
    → AllByRecursion (λ d. at d.0 (e ∷ es) ≡ Some d.1) later
later_own e es [] less own = tt
later_own e es (d ∷ later) less own =
    (ap (λ (b : Bool). cond b (Some e.1) (at d.0 es)) (later_apart e.0 d.0 less.0) ∙ own.0, later_own e es later less.1 own.1)

own_groups : (es : List (SetKey × Group)) → IsStrictlySortedBy key_cmp (keys_of es) → AllByRecursion (λ e. at e.0 es ≡ Some e.1) es
unfolding IsStrictlySortedBy
own_groups [] order = tt
own_groups (e ∷ es) order =
    (ap (λ (b : Bool). cond b (Some e.1) (at e.0 es)) (key_eq e.0 e.0 ∙ same_equiv.refl e.0), later_own e es es order.0 (own_groups es order.1))

-- ---- gathering
abbrev pub listed : Option Group → List Record
listed None = []
listed (Some group) = records_of group

-- A prerequisite is put after those of its set.
abbrev pub GathersOne : BTreeMap SetKey Group → Record → BTreeMap SetKey Group → Type 0
GathersOne old r new =
    (key : SetKey) → option_map records_of (get key_cmp new key)
    ≡ cond (name_eq key.owner r.name && same_record_type key.record_type (type_of r.rdata)) (Some (listed (get key_cmp old key) ++ r ∷ [])) (option_map records_of (get key_cmp old key))

put_one : (old new : BTreeMap SetKey Group) (key : SetKey) (r : Record) (group : Group) → same key (key_of r) ≡ true
    → ((q : SetKey) → get key_cmp new q ≡ cond (is_eq (key_cmp key q)) (Some group) (get key_cmp old q))
    → records_of group ≡ listed (get key_cmp old key) ++ r ∷ [] → GathersOne old r new
put_one old new key r group own put is q =
    ap (option_map records_of) (put q ∙ ap (λ (b : Bool). cond b (Some group) (get key_cmp old q)) (key_eq key q ∙ turned))
    ∙ by (same q (key_of r)) refl
  where
    turned : same key q ≡ same q (key_of r)
    turned = same_equiv.congr key (key_of r) q own ∙ same_equiv.symm (key_of r) q

    by : (b : Bool) → same q (key_of r) ≡ b
        → option_map records_of (cond b (Some group) (get key_cmp old q)) ≡ cond b (Some (listed (get key_cmp old q) ++ r ∷ [])) (option_map records_of (get key_cmp old q))
    by true here =
        ap Some (is ∙ ap (λ (o : Option Group). listed o ++ r ∷ []) (at_alike key q old.entries (turned ∙ here)))
    by false there = refl

keyed : (key : SetKey) (r : Record) → key.owner ≡ lowercase_name r.name → key.record_type ≡ type_of r.rdata → same key (key_of r) ≡ true
keyed key r owner kind =
    ap (λ (n : DomainName). name_eq n r.name && same_record_type key.record_type (type_of r.rdata)) owner
    ∙ ap (λ (b : Bool). b && same_record_type key.record_type (type_of r.rdata)) (eq_lower (type_of r.rdata) r.name r.name ∙ name_eq_equiv.refl r.name)
    ∙ ap (λ (n : ℕ). n == record_type_number (type_of r.rdata)) (ap record_type_number kind)
    ∙ nat_eq_equiv.refl (record_type_number (type_of r.rdata))

pub gathers_one : (old new : BTreeMap SetKey Group) (key : SetKey) (r : Record) (group : Group) → key.owner ≡ lowercase_name r.name → key.record_type ≡ type_of r.rdata
    → ((q : SetKey) → get key_cmp new q ≡ cond (is_eq (key_cmp key q)) (Some group) (get key_cmp old q))
    → records_of group ≡ listed (get key_cmp old key) ++ r ∷ [] → GathersOne old r new
gathers_one old new key r group owner kind put is = put_one old new key r group (keyed key r owner kind) put is

map_more : (xs : List (Bor Record)) (x : Bor Record) → map (λ r. r.now) (xs ++ x ∷ []) ≡ map (λ r. r.now) xs ++ x.now ∷ []
map_more [] x = refl
map_more (y ∷ xs) x = ap (λ (rs : List Record). y.now ∷ rs) (map_more xs x)

pub records_more : (group new : Group) (p : Bor Record) → new.items ≡ group.items ++ p ∷ [] → records_of new ≡ records_of group ++ p.now ∷ []
records_more group new p items = ap (λ (xs : List (Bor Record)). map (λ r. r.now) xs) items ∙ map_more group.items p

filter_more : (p : Record → Bool) (rs : List Record) (r : Record) → filter p (rs ++ r ∷ []) ≡ cond (p r) (filter p rs ++ r ∷ []) (filter p rs)
filter_more p [] r = by (p r)
  where
    by : (b : Bool) → cond b (r ∷ []) [] ≡ cond b (r ∷ []) []
    by b = refl
filter_more p (s ∷ rs) r = ap (λ (xs : List Record). cond (p s) (s ∷ xs) xs) (filter_more p rs r) ∙ by (p s) (p r)
  where
    by : (b c : Bool) → cond b (s ∷ cond c (filter p rs ++ r ∷ []) (filter p rs)) (cond c (filter p rs ++ r ∷ []) (filter p rs)) ≡ cond c (cond b (s ∷ filter p rs) (filter p rs) ++ r ∷ []) (cond b (s ∷ filter p rs) (filter p rs))
    by true true = refl
    by true false = refl
    by false true = refl
    by false false = refl

listed_of : (o : Option Group) (rs : List Record) → option_map records_of o ≡ unless_none rs → listed o ≡ rs
listed_of None [] e = refl
listed_of None (r ∷ rs) e = let h : ⊥ = cc in absurd h
listed_of (Some group) [] e = let h : ⊥ = cc in absurd h
listed_of (Some group) (r ∷ rs) e = let g : records_of group ≡ r ∷ rs = cc in g

some_more : (rs : List Record) (r : Record) → unless_none (rs ++ r ∷ []) ≡ Some (rs ++ r ∷ [])
some_more [] r = refl
some_more (s ∷ rs) r = refl

-- A prerequisite of class IN is gathered, any other is passed over.
pub gathers_more : (rs : List Record) (r : Record) (old new : BTreeMap SetKey Group) → Gathers rs old → is_valued r ≡ true → GathersOne old r new → Gathers (rs ++ r ∷ []) new
gathers_more rs r old new gathers valued one key =
    one key ∙ by (same key (key_of r)) refl ∙ sym (ap unless_none (filter_more (is_of_set key) rs r))
  where
    of_set : (b : Bool) → same key (key_of r) ≡ b → is_of_set key r ≡ b
    of_set b e = ap (λ (v : Bool). v && same key (key_of r)) valued ∙ e

    by : (b : Bool) → same key (key_of r) ≡ b
        → cond b (Some (listed (get key_cmp old key) ++ r ∷ [])) (option_map records_of (get key_cmp old key)) ≡ unless_none (cond (is_of_set key r) (filter (is_of_set key) rs ++ r ∷ []) (filter (is_of_set key) rs))
    by true e =
        ap (λ (xs : List Record). Some (xs ++ r ∷ [])) (listed_of (get key_cmp old key) (filter (is_of_set key) rs) (gathers key))
        ∙ sym (some_more (filter (is_of_set key) rs) r)
        ∙ ap (λ (b : Bool). unless_none (cond b (filter (is_of_set key) rs ++ r ∷ []) (filter (is_of_set key) rs))) (sym (of_set true e))
    by false e = gathers key ∙ ap (λ (b : Bool). unless_none (cond b (filter (is_of_set key) rs ++ r ∷ []) (filter (is_of_set key) rs))) (sym (of_set false e))

pub gathers_other : (rs : List Record) (r : Record) (groups : BTreeMap SetKey Group) → Gathers rs groups → is_valued r ≡ false → Gathers (rs ++ r ∷ []) groups
gathers_other rs r groups gathers other key =
    gathers key ∙ ap unless_none (sym (filter_more (is_of_set key) rs r ∙ ap (λ (v : Bool). cond (v && same key (key_of r)) (filter (is_of_set key) rs ++ r ∷ []) (filter (is_of_set key) rs)) other))

pub gathers_none : (groups : BTreeMap SetKey Group) → groups.entries ≡ [] → Gathers [] groups
gathers_none groups none key = ap (λ (es : List (SetKey × Group)). option_map records_of (at key es)) none

-- ---- what is asked of each set
filter_alike : (p q : Record → Bool) → ((r : Record) → p r ≡ q r) → (rs : List Record) → filter p rs ≡ filter q rs
filter_alike p q alike [] = refl
filter_alike p q alike (r ∷ rs) =
    ap (λ (b : Bool). cond b (r ∷ filter p rs) (filter p rs)) (alike r) ∙ ap (λ (xs : List Record). cond (q r) (r ∷ xs) xs) (filter_alike p q alike rs)

wanted_alike : (a b : SetKey) (rs : List Record) → same a b ≡ true → filter (is_of_set a) rs ≡ filter (is_of_set b) rs
wanted_alike a b rs alike = filter_alike (is_of_set a) (is_of_set b) (λ r. ap (λ (x : Bool). is_valued r && x) (same_equiv.congr a b (key_of r) alike)) rs

set_alike : (sets : List RRset) (a b : SetKey) → same a b ≡ true → rrset_at sets a.owner a.record_type ≡ rrset_at sets b.owner b.record_type
set_alike sets a b alike =
    let parts = and_parts (name_eq a.owner b.owner) (same_record_type a.record_type b.record_type) alike in
    sym (rrset_same sets a.owner b.owner a.record_type parts.0)
    ∙ ap (λ (n : ℕ). find (λ (set : RRset). name_eq b.owner set.name && (record_type_number set.record_type == n)) sets)
    (eqb-true (record_type_number a.record_type) (record_type_number b.record_type) parts.1)

first_filtered : (p q : Record → Bool) (rs : List Record) (r : Record) (more : List Record) → filter p rs ≡ r ∷ more → list_all q rs ≡ true → (p r ≡ true) × (q r ≡ true)
first_filtered p q [] r more e all = let h : ⊥ = cc in absurd h
first_filtered p q (s ∷ rs) r more e all =
    let parts = and_parts (q s) (list_all q rs) all in
    by (p s) refl e (λ f. first_filtered p q rs r more f parts.1) parts.0
  where
    by : (b : Bool) → p s ≡ b → cond b (s ∷ filter p rs) (filter p rs) ≡ r ∷ more → (filter p rs ≡ r ∷ more → (p r ≡ true) × (q r ≡ true)) → q s ≡ true → (p r ≡ true) × (q r ≡ true)
    by true passes f later first =
        let g : s ≡ r = cc in
        (subst (λ (x : Record). p x ≡ true) g passes, subst (λ (x : Record). q x ≡ true) g first)
    by false passes f later first = later f

some_filtered : (p : Record → Bool) (before : List Record) (r : Record) (later : List Record) → p r ≡ true → none_left (filter p (before ++ r ∷ later)) ≡ false
some_filtered p [] r later is = ap (λ (b : Bool). none_left (cond b (r ∷ filter p later) (filter p later))) is
some_filtered p (s ∷ before) r later is = by (p s) (some_filtered p before r later is)
  where
    by : (b : Bool) → none_left (filter p (before ++ r ∷ later)) ≡ false → none_left (cond b (s ∷ filter p (before ++ r ∷ later)) (filter p (before ++ r ∷ later))) ≡ false
    by true more = refl
    by false more = more

record FoundMet (sets : List RRset) (key : SetKey) (group : Group) : Type 0 where
  found : SetKey
  alike : same key found ≡ true
  met : is_met_by sets found (records_of group) ≡ true

found_met : (sets : List RRset) (key : SetKey) (group : Group) (es : List (SetKey × Group)) → at key es ≡ Some group → list_all (is_group_met sets) es ≡ true → FoundMet sets key group
found_met sets key group [] found all = let h : ⊥ = cc in absurd h
found_met sets key group (e ∷ es) found all =
    let parts = and_parts (is_group_met sets e) (list_all (is_group_met sets) es) all in
    by (is_eq (key_cmp key e.0)) refl found (λ f. found_met sets key group es f parts.1) parts.0
  where
    by : (b : Bool) → is_eq (key_cmp key e.0) ≡ b → cond b (Some e.1) (at key es) ≡ Some group → (at key es ≡ Some group → FoundMet sets key group) → is_group_met sets e ≡ true → FoundMet sets key group
    by true is f later first =
        let g : e.1 ≡ group = cc in
        record { found = e.0; alike = sym (key_eq key e.0) ∙ is; met = subst (λ (x : Group). is_met_by sets e.0 (records_of x) ≡ true) g first }
    by false is f later first = later f

module _ (sets : List RRset) (rs : List Record) (groups : BTreeMap SetKey Group) (gathers : Gathers rs groups) where
  -- Where all prerequisites are met, so is each group.
  asks_same : (key : SetKey) (group : Group) (ws : List Record) → get key_cmp groups key ≡ Some group → filter (is_of_set key) rs ≡ ws → Some (records_of group) ≡ unless_none ws
  asks_same key group ws found e = sym (ap (option_map records_of) found) ∙ gathers key ∙ ap unless_none e

  group_met : (e : SetKey × Group) → get key_cmp groups e.0 ≡ Some e.1 → list_all (is_met sets rs) rs ≡ true → is_group_met sets e ≡ true
  group_met e found all = by (filter (is_of_set e.0) rs) refl
    where
      by : (ws : List Record) → filter (is_of_set e.0) rs ≡ ws → is_group_met sets e ≡ true
      by [] none = let f : Some (records_of e.1) ≡ None = asks_same e.0 e.1 [] found none in let h : ⊥ = cc in absurd h
      by (w ∷ ws) some =
          let f : Some (records_of e.1) ≡ Some (w ∷ ws) = asks_same e.0 e.1 (w ∷ ws) found some in
          let asked : records_of e.1 ≡ w ∷ ws = cc in
          let first = first_filtered (is_of_set e.0) (is_met sets rs) rs w ws some all in
          let parts = and_parts (is_valued w) (same e.0 (key_of w)) first.0 in
          let met : is_met_by sets (key_of w) (filter (is_of_set (key_of w)) rs) ≡ true =
          ap (λ (v : Bool). not v || is_met_by sets (key_of w) (filter (is_of_set (key_of w)) rs)) (sym parts.0) ∙ first.1 in
          ap (is_met_by sets e.0) (asked ∙ sym some ∙ wanted_alike e.0 (key_of w) rs parts.1)
          ∙ ap (λ (o : Option RRset). has_exactly o (filter (is_of_set (key_of w)) rs)) (set_alike sets e.0 (key_of w) parts.1)
          ∙ met

  groups_met : (es : List (SetKey × Group)) → AllByRecursion (λ e. get key_cmp groups e.0 ≡ Some e.1) es → list_all (is_met sets rs) rs ≡ true → list_all (is_group_met sets) es ≡ true
  groups_met [] own all = refl
  groups_met (e ∷ es) own all = and_from (is_group_met sets e) (list_all (is_group_met sets) es) (group_met e own.0 all) (groups_met es own.1 all)

  -- Where all groups are met, so is each prerequisite.
  asked_met : (before : List Record) (r : Record) (later : List Record) → before ++ r ∷ later ≡ rs → list_all (is_group_met sets) groups.entries ≡ true → is_met sets rs r ≡ true
  asked_met before r later parts all = by (is_valued r) refl
    where
      some : is_valued r ≡ true → none_left (filter (is_of_set (key_of r)) rs) ≡ false
      some valued =
          subst (λ (xs : List Record). none_left (filter (is_of_set (key_of r)) xs) ≡ false) parts
          (some_filtered (is_of_set (key_of r)) before r later (ap (λ (v : Bool). v && same (key_of r) (key_of r)) valued ∙ same_equiv.refl (key_of r)))

      met_at : (o : Option Group) (ws : List Record) → get key_cmp groups (key_of r) ≡ o → filter (is_of_set (key_of r)) rs ≡ ws → none_left ws ≡ false → option_map records_of o ≡ unless_none ws
          → is_met_by sets (key_of r) ws ≡ true
      met_at o [] found e left asked = absurd (true≢false left)
      met_at None (w ∷ ws) found e left asked = let h : ⊥ = cc in absurd h
      met_at (Some group) (w ∷ ws) found e left asked =
          let same_records : records_of group ≡ w ∷ ws = cc in
          let there = found_met sets (key_of r) group groups.entries found all in
          ap (is_met_by sets (key_of r)) (sym same_records)
          ∙ ap (λ (s : Option RRset). has_exactly s (records_of group)) (set_alike sets (key_of r) there.found there.alike)
          ∙ there.met

      by : (v : Bool) → is_valued r ≡ v → (not v || is_met_by sets (key_of r) (filter (is_of_set (key_of r)) rs)) ≡ true
      by true valued = met_at (get key_cmp groups (key_of r)) (filter (is_of_set (key_of r)) rs) refl refl (some valued) (gathers (key_of r))
      by false other = refl

  each_met : (before later : List Record) → before ++ later ≡ rs → list_all (is_group_met sets) groups.entries ≡ true → list_all (is_met sets rs) later ≡ true
  each_met before [] parts all = refl
  each_met before (r ∷ later) parts all =
      and_from (is_met sets rs r) (list_all (is_met sets rs) later) (asked_met before r later parts all)
      (each_met (before ++ r ∷ []) later (one_on before r later ∙ parts) all)
    where
      one_on : (xs : List Record) (x : Record) (ys : List Record) → (xs ++ x ∷ []) ++ ys ≡ xs ++ x ∷ ys
      one_on [] x ys = refl
      one_on (y ∷ xs) x ys = ap (λ (zs : List Record). y ∷ zs) (one_on xs x ys)

either_way : (a b : Bool) → (a ≡ true → b ≡ true) → (b ≡ true → a ≡ true) → a ≡ b
either_way true true f g = refl
either_way true false f g = sym (f refl)
either_way false true f g = g refl
either_way false false f g = refl

-- All groups are met exactly where all prerequisites are.
pub groups_met_as : (sets : List RRset) (rs : List Record) (groups : BTreeMap SetKey Group) → IsOrdered key_cmp groups → Gathers rs groups
    → list_all (is_group_met sets) groups.entries ≡ list_all (is_met sets rs) rs
groups_met_as sets rs groups order gathers =
    either_way (list_all (is_group_met sets) groups.entries) (list_all (is_met sets rs) rs)
    (each_met sets rs groups gathers [] rs refl)
    (groups_met sets rs groups gathers groups.entries (own_groups groups.entries order))
