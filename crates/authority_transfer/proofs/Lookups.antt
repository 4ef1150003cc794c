-- Zones of the same sets answer alike.
use Rattle.std.proofs.Common.{◌≡◌, ◌∙◌, refl, sym, ap, subst, ℕ, length, arith}
use Rattle.std.specs.Prelude.{Bool, true, false, not, ◌&&◌, ◌||◌, List, [], ◌∷◌, ◌++◌, map, min, Option, Some, None, is_some, cond, option_map}
use Rattle.std.specs.List.{list_any}
use Rattle.std.proofs.lemmas.Bool.{true≢false}
use Rattle.zsv_message.specs.zst_record.dnw_codes.declared.record_type.RecordType.{RecordType}
use Rattle.zsv_message.specs.zst_record.dnw_codes.declared.record_type.RecordType.TheVariants as kind
use Rattle.zsv_message.specs.zst_record.dnw_codes.RecordType.{same_record_type}
use Rattle.zsv_message.specs.zst_record.dnw_name.DomainName.{DomainName, domain_name, is_at_or_below, lowercase_name, name_eq}
use Rattle.zsv_message.specs.zst_record.declared.records.Record.{Record}
use Rattle.zsv_message.specs.zst_record.RecordSets.{RRset, flattened_record, flattened_set, renamed, renamed_record}
use Rattle.authority_load.specs.zst_zone.zst_handler.Chains.{IsAliasChain, Links, NoneTwice, asked_names, end_of, first_target, leads, long, loops, nothing, target_of}
use Rattle.authority_load.specs.zst_zone.zst_handler.Found.{above, cut_at, cut_found, delegation, found, found_set, here, is_address, nearest_above, wildcard_answer}
use Rattle.authority_load.specs.zst_zone.zst_handler.Lookups.{Answer, AnswersFrom, IsLookup, LookupFrom, Outcome, addresses, additionals, alias_answer, alias_ttl, all_outcome, answered, behind_alias, denial, flattened, has_additionals, is_flattened, listed, name_error, name_exists, of_type, out_of_zone, sets_of_name}
use Rattle.authority_load.specs.zst_zone.zst_handler.Zones.{Zone, exists_in, rrset_at}
use Rattle.authority_load.specs.zst_zone.zst_key.Ancestors.{nearest_from, nearest_in, or_else, star}
use Rattle.std.specs.List.{flat_map}
use Rattle.authority_load.specs.zst_zone.zst_handler.Lookups.{once, targets}
use Rattle.authority_transfer.specs.Alike.{AllSame, AnswersAlike, IsSameOutcome, IsSameRecord, IsSameSet, IsSameZone, SameOption}
use Rattle.authority_transfer.proofs.Same.{key_same}

abbrev SameO : Option RRset → Option RRset → Type 0
SameO = SameOption IsSameSet

abbrev Sames : List RRset → List RRset → Type 0
Sames = AllSame IsSameSet

-- ---- values that may be there
or_alike : {X : Type 0} (Same : X → X → Type 0) (o p q r : Option X) → SameOption Same o p → SameOption Same q r → SameOption Same (or_else o q) (or_else p r)
or_alike Same None None q r first other = other
or_alike Same (Some x) (Some y) q r first other = first
or_alike Same None (Some y) q r first other = absurd first
or_alike Same (Some x) None q r first other = absurd first

map_alike : {X Y : Type 0} (Same : X → X → Type 0) (Also : Y → Y → Type 0) (f g : X → Y) (o p : Option X) → ((x y : X) → Same x y → Also (f x) (g y)) → SameOption Same o p → SameOption Also (option_map f o) (option_map g p)
map_alike Same Also f g None None each same = tt
map_alike Same Also f g (Some x) (Some y) each same = each x y same
map_alike Same Also f g None (Some y) each same = absurd same
map_alike Same Also f g (Some x) None each same = absurd same

some_alike : {X : Type 0} (Same : X → X → Type 0) (o p : Option X) → SameOption Same o p → is_some o ≡ is_some p
some_alike Same None None same = refl
some_alike Same (Some x) (Some y) same = refl
some_alike Same None (Some y) same = absurd same
some_alike Same (Some x) None same = absurd same

find_alike : (xs0 bs : List RRset) (name : DomainName) (t : RecordType) → Sames xs0 bs → SameO (rrset_at xs0 name t) (rrset_at bs name t)
find_alike [] [] name t same = tt
find_alike [] (b ∷ bs) name t same = absurd same
find_alike (a ∷ xs0) [] name t same = absurd same
find_alike (a ∷ xs0) (b ∷ bs) name t same = by _ _ (key_same a b (name, t) same.0) (find_alike xs0 bs name t same.1)
  where
    by : (x y : Bool) → x ≡ y → SameO (rrset_at xs0 name t) (rrset_at bs name t) → SameO (cond x (Some a) (rrset_at xs0 name t)) (cond y (Some b) (rrset_at bs name t))
    by true true e more = same.0
    by false false e more = more
    by true false e more = absurd (true≢false e)
    by false true e more = absurd (true≢false (sym e))

here_alike : (xs0 bs : List RRset) (t : RecordType) (name : DomainName) → Sames xs0 bs → SameO (here xs0 t name) (here bs t name)
here_alike xs0 bs t name same =
    or_alike IsSameSet (rrset_at xs0 name t) (rrset_at bs name t) _ _ (find_alike xs0 bs name t same)
    (or_alike IsSameSet (rrset_at xs0 name kind.CNAME) (rrset_at bs name kind.CNAME) _ _ (find_alike xs0 bs name kind.CNAME same) (by (is_address t)))
  where
    by : (b : Bool) → SameO (cond b (rrset_at xs0 name kind.ANAME) None) (cond b (rrset_at bs name kind.ANAME) None)
    by true = find_alike xs0 bs name kind.ANAME same
    by false = tt

cut_alike : (xs0 bs : List RRset) (name : DomainName) → Sames xs0 bs → SameOption SameO (cut_at xs0 name) (cut_at bs name)
cut_alike xs0 bs name same =
    map_alike IsSameSet SameO _ _ (rrset_at xs0 name kind.NS) (rrset_at bs name kind.NS)
    (λ x y e. by (is_some (rrset_at xs0 name kind.SOA)) (is_some (rrset_at bs name kind.SOA)) (some_alike IsSameSet (rrset_at xs0 name kind.SOA) (rrset_at bs name kind.SOA) (find_alike xs0 bs name kind.SOA same)) x y e)
    (find_alike xs0 bs name kind.NS same)
  where
    by : (b c : Bool) → b ≡ c → (x y : RRset) → IsSameSet x y → SameO (cond b None (Some x)) (cond c None (Some y))
    by true true e x y s = tt
    by false false e x y s = s
    by true false e x y s = absurd (true≢false e)
    by false true e x y s = absurd (true≢false (sym e))

-- ---- the nearest name above one
module _ {X : Type 0} (Same : X → X → Type 0) (at other : DomainName → Option X) (each : (name : DomainName) → SameOption Same (at name) (other name)) where
  abbrev SamePair : DomainName × X → DomainName × X → Type 0
  SamePair x y = Same x.1 y.1

  here_pair : (name : DomainName) → SameOption SamePair (option_map (λ x. (name, x)) (at name)) (option_map (λ x. (name, x)) (other name))
  here_pair name = map_alike Same SamePair (λ x. (name, x)) (λ x. (name, x)) (at name) (other name) (λ x y e. e) (each name)

  nearest_alike : (fqdn : Bool) (labels : List (List ℕ)) → SameOption SamePair (nearest_from at fqdn labels) (nearest_from other fqdn labels)
  nearest_alike fqdn [] = here_pair (domain_name fqdn [])
  nearest_alike fqdn (label ∷ labels) =
      or_alike SamePair _ _ (nearest_from at fqdn labels) (nearest_from other fqdn labels) (here_pair (domain_name fqdn (label ∷ labels))) (nearest_alike fqdn labels)

  above_alike : (fqdn : Bool) (labels : List (List ℕ)) → SameOption SamePair (nearest_above at fqdn labels) (nearest_above other fqdn labels)
  above_alike fqdn [] = tt
  above_alike fqdn (label ∷ labels) = nearest_alike fqdn labels

cut_of_pair : (o p : Option (DomainName × Option RRset)) → SameOption (λ x y. SameO x.1 y.1) o p → SameO (cut_found o) (cut_found p)
cut_of_pair None None same = tt
cut_of_pair (Some x) (Some y) same = same
cut_of_pair None (Some y) same = absurd same
cut_of_pair (Some x) None same = absurd same

set_of_pair : (o p : Option (DomainName × RRset)) → SameOption (λ x y. IsSameSet x.1 y.1) o p → SameO (found_set o) (found_set p)
set_of_pair None None same = tt
set_of_pair (Some x) (Some y) same = same
set_of_pair None (Some y) same = absurd same
set_of_pair (Some x) None same = absurd same

-- ---- records under another name
records_alike : (f : Record → Record) (rs ss : List Record) → ((r s : Record) → IsSameRecord r s → IsSameRecord (f r) (f s)) → AllSame IsSameRecord rs ss → AllSame IsSameRecord (map f rs) (map f ss)
records_alike f [] [] each same = tt
records_alike f [] (s ∷ ss) each same = absurd same
records_alike f (r ∷ rs) [] each same = absurd same
records_alike f (r ∷ rs) (s ∷ ss) each same = (each r s same.0, records_alike f rs ss each same.1)

one_renamed : (owner : DomainName) (r s : Record) → IsSameRecord r s → IsSameRecord (renamed_record owner r) (renamed_record owner s)
one_renamed owner r s same = record { name = refl; dns_class = same.dns_class; ttl = same.ttl; of_type = same.of_type; target = same.target; rdata = same.rdata }

one_flattened : (owner : DomainName) (ttl : ℕ) (r s : Record) → IsSameRecord r s → IsSameRecord (flattened_record owner ttl r) (flattened_record owner ttl s)
one_flattened owner ttl r s same = record { name = refl; dns_class = same.dns_class; ttl = ap (λ (n : ℕ). min n ttl) same.ttl; of_type = same.of_type; target = same.target; rdata = same.rdata }

set_renamed : (owner : DomainName) (a b : RRset) → IsSameSet a b → IsSameSet (renamed owner a) (renamed owner b)
set_renamed owner a b same = record {
  name = refl;
  dns_class = same.dns_class;
  record_type = same.record_type;
  records = records_alike (renamed_record owner) a.records b.records (one_renamed owner) same.records;
  signatures = records_alike (renamed_record owner) a.signatures b.signatures (one_renamed owner) same.signatures;
}

ttl_same : (rs ss : List Record) → AllSame IsSameRecord rs ss → alias_ttl rs ≡ alias_ttl ss
ttl_same [] [] same = refl
ttl_same [] (s ∷ ss) same = absurd same
ttl_same (r ∷ rs) [] same = absurd same
ttl_same (r ∷ rs) (s ∷ ss) same = same.0.ttl

targets_same : (rs ss : List Record) → AllSame IsSameRecord rs ss → targets rs ≡ targets ss
targets_same [] [] same = refl
targets_same [] (s ∷ ss) same = absurd same
targets_same (r ∷ rs) [] same = absurd same
targets_same (r ∷ rs) (s ∷ ss) same =
    either (target_of r.rdata) (target_of s.rdata) same.0.target (targets_same rs ss same.1)
  where
    with_target : Option DomainName → List DomainName → List DomainName
    with_target None names = names
    with_target (Some name) names = name ∷ names

    either : (o p : Option DomainName) → o ≡ p → targets rs ≡ targets ss → with_target o (targets rs) ≡ with_target p (targets ss)
    either o p e rest = ap (λ (q : Option DomainName). with_target q (targets rs)) e ∙ ap (with_target p) rest

target_same : (rs ss : List Record) → AllSame IsSameRecord rs ss → first_target rs ≡ first_target ss
target_same [] [] same = refl
target_same [] (s ∷ ss) same = absurd same
target_same (r ∷ rs) [] same = absurd same
target_same (r ∷ rs) (s ∷ ss) same = same.0.target

set_flattened : (owner : DomainName) (alias other a b : RRset) → IsSameSet alias other → IsSameSet a b → IsSameSet (flattened owner alias a) (flattened owner other b)
set_flattened owner alias other a b first same =
    subst (λ (n : ℕ). IsSameSet (flattened_set owner (alias_ttl alias.records) a) (flattened_set owner n b)) (ttl_same alias.records other.records first.records)
    (record {
      name = refl;
      dns_class = same.dns_class;
      record_type = same.record_type;
      records = records_alike (flattened_record owner (alias_ttl alias.records)) a.records b.records (one_flattened owner (alias_ttl alias.records)) same.records;
      signatures = tt;
    })

-- ---- what is found
module _ (xs0 bs : List RRset) (same : Sames xs0 bs) where
  delegation_alike : (name : DomainName) (t : RecordType) → SameO (delegation xs0 name t) (delegation bs name t)
  delegation_alike name t = by (same_record_type t kind.DS)
    where
      by : (b : Bool) → SameO (cond b (cut_found (above (cut_at xs0) name)) (cut_found (nearest_in (cut_at xs0) name))) (cond b (cut_found (above (cut_at bs) name)) (cut_found (nearest_in (cut_at bs) name)))
      by true = cut_of_pair _ _ (above_alike SameO (cut_at xs0) (cut_at bs) (λ n. cut_alike xs0 bs n same) name.fqdn name.labels)
      by false = cut_of_pair _ _ (nearest_alike SameO (cut_at xs0) (cut_at bs) (λ n. cut_alike xs0 bs n same) name.fqdn name.labels)

  wildcard_alike : (name : DomainName) (t : RecordType) → SameO (wildcard_answer xs0 name t) (wildcard_answer bs name t)
  wildcard_alike name t =
      map_alike IsSameSet IsSameSet (renamed (lowercase_name name)) (renamed (lowercase_name name)) _ _ (set_renamed (lowercase_name name))
      (set_of_pair _ _ (above_alike IsSameSet (λ ancestor. here xs0 t (star ancestor)) (λ ancestor. here bs t (star ancestor)) (λ n. here_alike xs0 bs t (star n) same) name.fqdn name.labels))

  found_alike : (name : DomainName) (t : RecordType) → SameO (found xs0 name t) (found bs name t)
  found_alike name t =
      or_alike IsSameSet (delegation xs0 name t) (delegation bs name t) _ _ (delegation_alike name t)
      (or_alike IsSameSet (here xs0 t name) (here bs t name) _ _ (here_alike xs0 bs t name same) (wildcard_alike name t))

  -- ---- chains of aliases
  leads_same : (t : RecordType) (a b : RRset) → IsSameSet a b → leads t a ≡ leads t b
  leads_same t a b e =
      ap (λ (u : RecordType). cond (same_record_type u kind.CNAME && not (same_record_type t kind.CNAME)) (first_target a.records) None) e.record_type
      ∙ ap (λ (n : Option DomainName). cond (same_record_type b.record_type kind.CNAME && not (same_record_type t kind.CNAME)) n None) (target_same a.records b.records e.records)

  record Follows (t : RecordType) (name : Option DomainName) (chain : List RRset) : Type 0 where
    other : List RRset
    links : Links bs t name other
    alike : Sames chain other

  found_there : (o p : Option RRset) (set : RRset) → o ≡ Some set → SameO o p → (b : RRset) × (p ≡ Some b) × IsSameSet set b
  found_there (Some a) (Some b) set e s = let g : a ≡ set = cc in (b, refl, subst (λ (x : RRset). IsSameSet x b) g s)
  found_there None p set e s = let h : ⊥ = cc in absurd h
  found_there (Some a) None set e s = absurd s

  follows : (t : RecordType) (name : Option DomainName) (chain : List RRset) → Links xs0 t name chain → Follows t name chain
  follows t name [] links = record { other = []; links = tt; alike = tt }
  follows t None (set ∷ chain) links = absurd links
  follows t (Some name) (set ∷ chain) links =
      let there = found_there (found xs0 name t) (found bs name t) set links.0 (found_alike name t) in
      let rest = follows t (leads t set) chain links.1 in
      record {
        other = there.0 ∷ rest.other;
        links = (there.1, subst (λ (n : Option DomainName). Links bs t n rest.other) (leads_same t set there.0 there.2) rest.links);
        alike = (there.2, rest.alike);
      }

  asked_same : (t : RecordType) (name : Option DomainName) (chain other : List RRset) → Sames chain other → asked_names t name chain ≡ asked_names t name other
  asked_same t None chain other e = refl
  asked_same t (Some name) [] [] e = refl
  asked_same t (Some name) [] (b ∷ other) e = absurd e
  asked_same t (Some name) (a ∷ chain) [] e = absurd e
  asked_same t (Some name) (a ∷ chain) (b ∷ other) e =
      ap (λ (ns : List DomainName). name ∷ ns)
      (ap (λ (n : Option DomainName). asked_names t n chain) (leads_same t a b e.0) ∙ asked_same t (leads t b) chain other e.1)

  end_same : (t : RecordType) (name : Option DomainName) (chain other : List RRset) → Sames chain other → end_of t name chain ≡ end_of t name other
  end_same t name [] [] e = refl
  end_same t name [] (b ∷ other) e = absurd e
  end_same t name (a ∷ chain) [] e = absurd e
  end_same t name (a ∷ chain) (b ∷ other) e = ap (λ (n : Option DomainName). end_of t n chain) (leads_same t a b e.0) ∙ end_same t (leads t b) chain other e.1

  length_same : (chain other : List RRset) → Sames chain other → length chain ≡ length other
  length_same [] [] e = refl
  length_same [] (b ∷ other) e = absurd e
  length_same (a ∷ chain) [] e = absurd e
  length_same (a ∷ chain) (b ∷ other) e = let h = length_same chain other e.1 in omega (arith, h)

  none_there : (o p : Option RRset) → SameO o p → o ≡ None → p ≡ None
  none_there None None s e = refl
  none_there None (Some b) s e = absurd s
  none_there (Some a) p s e = let h : ⊥ = cc in absurd h

  chain_alike : (name : DomainName) (t : RecordType) (chain : List RRset) → IsAliasChain xs0 name t chain → (other : List RRset) × IsAliasChain bs name t other × Sames chain other
  chain_alike name t chain is =
      let f = follows t (Some name) chain is.links in
      let asked : asked_names t (Some name) chain ≡ asked_names t (Some name) f.other = asked_same t (Some name) chain f.other f.alike in
      let long_as : length chain ≡ length f.other = length_same chain f.other f.alike in (
        f.other,
        record {
          links = f.links;
          once = subst (NoneTwice []) asked is.once;
          short = omega (arith, long_as, is.short);
          ends = λ last e.
              elim (is.ends last (end_same t (Some name) chain f.other f.alike ∙ e)) [
                | nothing none ↦ nothing (none_there (found xs0 last t) (found bs last t) (found_alike last t) none)
                | loops again ↦ loops (ap (list_any (name_eq last)) (sym asked) ∙ again)
                | long full ↦ long (sym long_as ∙ full)
              ];
        },
        f.alike,
      )

  -- ---- what goes with an answer
  listed_alike : (o p : Option RRset) → SameO o p → Sames (listed o) (listed p)
  listed_alike None None s = tt
  listed_alike (Some a) (Some b) s = (s, tt)
  listed_alike None (Some b) s = absurd s
  listed_alike (Some a) None s = absurd s

  append_alike : (xs ys us vs : List RRset) → Sames xs us → Sames ys vs → Sames (xs ++ ys) (us ++ vs)
  append_alike [] ys [] vs first other = other
  append_alike [] ys (u ∷ us) vs first other = absurd first
  append_alike (x ∷ xs) ys [] vs first other = absurd first
  append_alike (x ∷ xs) ys (u ∷ us) vs first other = (first.0, append_alike xs ys us vs first.1 other)

  addresses_alike : (name : Option DomainName) → Sames (addresses xs0 name) (addresses bs name)
  addresses_alike None = tt
  addresses_alike (Some name) =
      append_alike (listed (rrset_at xs0 name kind.A)) (listed (rrset_at xs0 name kind.AAAA)) (listed (rrset_at bs name kind.A)) (listed (rrset_at bs name kind.AAAA))
      (listed_alike (rrset_at xs0 name kind.A) (rrset_at bs name kind.A) (find_alike xs0 bs name kind.A same))
      (listed_alike (rrset_at xs0 name kind.AAAA) (rrset_at bs name kind.AAAA) (find_alike xs0 bs name kind.AAAA same))

  every_alike : (names : List DomainName) → Sames (flat_map (λ name. addresses xs0 (Some name)) names) (flat_map (λ name. addresses bs (Some name)) names)
  every_alike [] = tt
  every_alike (name ∷ names) =
      append_alike (addresses xs0 (Some name)) (flat_map (λ name. addresses xs0 (Some name)) names) (addresses bs (Some name)) (flat_map (λ name. addresses bs (Some name)) names)
      (addresses_alike (Some name)) (every_alike names)

  additionals_alike : (a b : RRset) → IsSameSet a b → Sames (additionals xs0 a) (additionals bs b)
  additionals_alike a b e =
      subst (λ (t : RecordType). Sames (additionals xs0 a) (cond (has_additionals t) (flat_map (λ name. addresses bs (Some name)) (once (targets b.records))) [])) e.record_type
      (subst (λ (ns : List DomainName). Sames (additionals xs0 a) (cond (has_additionals a.record_type) (flat_map (λ name. addresses bs (Some name)) (once ns)) [])) (targets_same a.records b.records e.records)
      (by (has_additionals a.record_type)))
    where
      by : (c : Bool) → Sames (cond c (flat_map (λ name. addresses xs0 (Some name)) (once (targets a.records))) []) (cond c (flat_map (λ name. addresses bs (Some name)) (once (targets a.records))) [])
      by true = every_alike (once (targets a.records))
      by false = tt

  type_alike : (t : RecordType) (o p : Option RRset) → SameO o p → SameO (of_type t o) (of_type t p)
  type_alike t None None s = tt
  type_alike t None (Some b) s = absurd s
  type_alike t (Some a) None s = absurd s
  type_alike t (Some a) (Some b) s =
      subst (λ (u : RecordType). SameO (cond (same_record_type a.record_type t) (Some a) None) (cond (same_record_type u t) (Some b) None)) s.record_type (by (same_record_type a.record_type t))
    where
      by : (c : Bool) → SameO (cond c (Some a) None) (cond c (Some b) None)
      by true = s
      by false = tt

  behind_alike : (t : RecordType) (name : Option DomainName) → SameO (behind_alias xs0 t name) (behind_alias bs t name)
  behind_alike t None = tt
  behind_alike t (Some name) = type_alike t (found xs0 name t) (found bs name t) (found_alike name t)

  abbrev SameAnswer : Answer → Answer → Type 0
  SameAnswer a b = Sames a.answers b.answers × Sames a.additionals b.additionals

  alias_alike : (name : DomainName) (a b : RRset) (o p : Option RRset) → IsSameSet a b → SameO o p → SameAnswer (alias_answer name a o) (alias_answer name b p)
  alias_alike name a b None None e s = ((e, tt), tt)
  alias_alike name a b None (Some y) e s = absurd s
  alias_alike name a b (Some x) None e s = absurd s
  alias_alike name a b (Some x) (Some y) e s = ((set_flattened (lowercase_name name) a b x y e s, tt), (e, tt))

  flat_same : (t : RecordType) (a b : RRset) → IsSameSet a b → is_flattened t a ≡ is_flattened t b
  flat_same t a b e = ap (λ (u : RecordType). same_record_type u kind.ANAME && is_address t) e.record_type

  from_alike : (name : DomainName) (t : RecordType) (a b : RRset) (answer : Answer) → IsSameSet a b → AnswersFrom xs0 name t a answer → (other : Answer) × AnswersFrom bs name t b other × SameAnswer answer other
  from_alike name t a b answer e from = by (is_flattened t a) refl
    where
      by : (c : Bool) → is_flattened t a ≡ c → (other : Answer) × AnswersFrom bs name t b other × SameAnswer answer other
      by true flat =
          let behind : SameO (behind_alias xs0 t (first_target a.records)) (behind_alias bs t (first_target b.records)) =
          subst (λ (n : Option DomainName). SameO (behind_alias xs0 t (first_target a.records)) (behind_alias bs t n)) (target_same a.records b.records e.records) (behind_alike t (first_target a.records)) in
          let other = alias_answer name b (behind_alias bs t (first_target b.records)) in (
            other,
            ((λ f. refl), (λ f. absurd (true≢false (sym flat ∙ flat_same t a b e ∙ f)))),
            subst (λ (x : Answer). SameAnswer x other) (sym (from.0 flat)) (alias_alike name a b _ _ e behind),
          )
      by false plain =
          let chain = chain_alike name t answer.answers (from.1 plain).0 in
          let also = additionals_alike a b e in (
            record { answers = chain.0; additionals = additionals bs b },
            ((λ f. absurd (true≢false (sym f ∙ sym (flat_same t a b e) ∙ plain))), (λ f. (chain.1, refl))),
            (chain.2, subst (λ (xs : List RRset). Sames xs (additionals bs b)) (sym (from.1 plain).1) also),
          )

  exists_same : (name : DomainName) → exists_in xs0 name ≡ exists_in bs name
  exists_same name = each xs0 bs same
    where
      each : (xs ys : List RRset) → Sames xs ys → exists_in xs name ≡ exists_in ys name
      each [] [] e = refl
      each [] (y ∷ ys) e = absurd e
      each (x ∷ xs) [] e = absurd e
      each (x ∷ xs) (y ∷ ys) e = ap (λ (n : DomainName). is_at_or_below n name || exists_in xs name) e.0.name ∙ ap (λ (b : Bool). is_at_or_below y.name name || b) (each xs ys e.1)

  named_alike : (name : DomainName) → Sames (sets_of_name xs0 name) (sets_of_name bs name)
  named_alike name = each xs0 bs same
    where
      each : (xs ys : List RRset) → Sames xs ys → Sames (sets_of_name xs name) (sets_of_name ys name)
      each [] [] e = tt
      each [] (y ∷ ys) e = absurd e
      each (x ∷ xs) [] e = absurd e
      each (x ∷ xs) (y ∷ ys) e = by (name_eq name x.name) (name_eq name y.name) (ap (name_eq name) e.0.name) (each xs ys e.1)
        where
          by : (b c : Bool) → b ≡ c → Sames (sets_of_name xs name) (sets_of_name ys name) → Sames (cond b (x ∷ sets_of_name xs name) (sets_of_name xs name)) (cond c (y ∷ sets_of_name ys name) (sets_of_name ys name))
          by true true f more = (e.0, more)
          by false false f more = more
          by true false f more = absurd (true≢false f)
          by false true f more = absurd (true≢false (sym f))

-- ---- the whole
same_reason : (a b : Zone) → IsSameZone a b → (name : DomainName) → denial a name ≡ denial b name
same_reason a b same name =
    ap (λ (c : Bool). cond c name_exists (cond (is_at_or_below name a.origin) name_error out_of_zone)) (exists_same a.sets b.sets same.sets name)
    ∙ ap (λ (o : DomainName). cond (exists_in b.sets name) name_exists (cond (is_at_or_below name o) name_error out_of_zone)) (sym (ap (λ (z : Zone). z.origin) same.rest))

denial_itself : (zone : Zone) (name : DomainName) → IsSameOutcome (denial zone name) (denial zone name)
denial_itself zone name = by (exists_in zone.sets name) (is_at_or_below name zone.origin)
  where
    by : (b c : Bool) → IsSameOutcome (cond b name_exists (cond c name_error out_of_zone)) (cond b name_exists (cond c name_error out_of_zone))
    by true c = tt
    by false true = tt
    by false false = tt

denial_alike : (a b : Zone) → IsSameZone a b → (name : DomainName) → IsSameOutcome (denial a name) (denial b name)
denial_alike a b same name = subst (IsSameOutcome (denial a name)) (same_reason a b same name) (denial_itself a name)

all_alike : (a b : Zone) → IsSameZone a b → (name : DomainName) (xs ys : List RRset) → AllSame IsSameSet xs ys → IsSameOutcome (all_outcome a name xs) (all_outcome b name ys)
all_alike a b same name [] [] e = denial_alike a b same name
all_alike a b same name [] (y ∷ ys) e = absurd e
all_alike a b same name (x ∷ xs) [] e = absurd e
all_alike a b same name (x ∷ xs) (y ∷ ys) e = (e, tt)

lookup_from : (a b : Zone) → IsSameZone a b → (name : DomainName) (t : RecordType) (o p : Option RRset) (outcome : Outcome) → SameOption IsSameSet o p → LookupFrom a name t o outcome
    → (other : Outcome) × LookupFrom b name t p other × IsSameOutcome outcome other
lookup_from a b same name t None None outcome e is = (denial b name, refl, subst (λ (x : Outcome). IsSameOutcome x (denial b name)) (sym is) (denial_alike a b same name))
lookup_from a b same name t None (Some y) outcome e is = absurd e
lookup_from a b same name t (Some x) None outcome e is = absurd e
lookup_from a b same name t (Some x) (Some y) outcome e (answer, is, from) =
    let there = from_alike a.sets b.sets same.sets name t x y answer e from in
    (answered there.0, (there.0, refl, there.1), subst (λ (z : Outcome). IsSameOutcome z (answered there.0)) (sym is) there.2)

pub answers_alike : (a b : Zone) → IsSameZone a b → AnswersAlike a b
answers_alike a b same name t outcome is = by (same_record_type t kind.ANY) refl
  where
    by : (c : Bool) → same_record_type t kind.ANY ≡ c → (other : Outcome) × IsLookup b name t other × IsSameOutcome outcome other
    by true e =
        let other = all_outcome b name (sets_of_name b.sets name) in (
          other,
          record { any = λ f. refl; one = λ f. absurd (true≢false (sym e ∙ f)) },
          subst (λ (x : Outcome). IsSameOutcome x other) (sym (is.any e)) (all_alike a b same name (sets_of_name a.sets name) (sets_of_name b.sets name) (named_alike a.sets b.sets same.sets name)),
        )
    by false e =
        let there = lookup_from a b same name t (found a.sets name t) (found b.sets name t) outcome (found_alike a.sets b.sets same.sets name t) (is.one e) in
        (there.0, record { any = λ f. absurd (true≢false (sym f ∙ e)); one = λ f. there.1 }, there.2)
