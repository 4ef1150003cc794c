-- What a zone stores and the order of its sets leave one list of sets, so that a record is added in one way.
use Rattle.std.proofs.Common.{◌≡◌, ◌⊎◌, inl, inr, refl, sym, ap, ◌∙◌, subst, rules}
use Rattle.std.specs.Prelude.{Bool, true, false, List, [], ◌∷◌, Some, None, cond, find}
use Rattle.std.specs.List.{AllByRecursion}
use Rattle.std.specs.Cmp.{IsTotalOrder, nat_cmp_is}
use Rattle.std.specs.Cmp.Rules.{comparing}
use Rattle.std.specs.Ordering.{nat_cmp, is_eq, ordering_reverse, ordering_then}
use Rattle.std.specs.declared.cmp.Ordering.{Ordering}
use Rattle.std.specs.declared.cmp.Ordering.TheVariants.{Less, Equal, Greater}
use Rattle.std.proofs.lemmas.Bool.{and_parts, eqb-true, eq-eqb}
use Rattle.zst_handler.specs.dnw_codes.declared.record_type.RecordType.{RecordType}
use Rattle.zst_handler.specs.dnw_codes.RecordType.{record_type_number, same_record_type}
use Rattle.zst_handler.specs.zst_record.RecordSets.{RRset}
use Rattle.zst_handler.specs.zst_record.declared.records.Record.{Record}
use Rattle.zst_handler.specs.dnw_name.DomainName.{DomainName, name_cmp, name_eq}
use Rattle.zst_handler.specs.dnw_name.NameOrderLaws.{name_eq-by_cmp}
use Rattle.zst_handler.specs.zst_record.RecordLaws.{name_eq_equiv}
use Rattle.zst_handler.specs.Zones.{AddsTo, AreInOrder, Zone, rrset_at, set_cmp}
use Rattle.zst_map.proofs.ZoneNodes.{is_set_at}

set_total : IsTotalOrder set_cmp
set_total = Prim.search (comparing, rules) depth 12

is_equal : (o : Ordering) → is_eq o ≡ true → o ≡ Equal
is_equal Less e = cc
is_equal Equal e = refl
is_equal Greater e = cc

-- ---- one owner and type
own_set : (a : RRset) → is_set_at a.name a.record_type a ≡ true
own_set a =
    let owner : name_eq a.name a.name ≡ true = name_eq_equiv.refl a.name in
    let kind : same_record_type a.record_type a.record_type ≡ true = eq-eqb (record_type_number a.record_type) (record_type_number a.record_type) refl in
    rw (owner, kind) refl

pub tied : (name : DomainName) (t : RecordType) (a b : RRset) → is_set_at name t a ≡ true → is_set_at name t b ≡ true → set_cmp a b ≡ Equal
tied name t a b at_a at_b =
    let p = and_parts (name_eq name a.name) (same_record_type a.record_type t) at_a in
    let q = and_parts (name_eq name b.name) (same_record_type b.record_type t) at_b in
    let named : name_eq a.name b.name ≡ true = sym (name_eq_equiv.congr name a.name b.name p.0) ∙ q.0 in
    let owner : name_cmp a.name b.name ≡ Equal = is_equal (name_cmp a.name b.name) (sym (name_eq-by_cmp a.name b.name) ∙ named) in
    let kind : record_type_number a.record_type ≡ record_type_number b.record_type =
    eqb-true (record_type_number a.record_type) (record_type_number t) p.1 ∙ sym (eqb-true (record_type_number b.record_type) (record_type_number t) q.1) in
    ap (λ (o : Ordering). ordering_then o (nat_cmp (record_type_number a.record_type) (record_type_number b.record_type))) owner
    ∙ sym (nat_cmp_is (record_type_number a.record_type) (record_type_number b.record_type) Equal kind)

none_behind : (name : DomainName) (t : RecordType) (a : RRset) (sets : List RRset) → is_set_at name t a ≡ true → AllByRecursion (λ later. set_cmp a later ≡ Less) sets
    → find (is_set_at name t) sets ≡ None
none_behind name t a [] at behind = refl
none_behind name t a (s ∷ sets) at behind = by (is_set_at name t s) refl (none_behind name t a sets at behind.1)
  where
    by : (b : Bool) → is_set_at name t s ≡ b → find (is_set_at name t) sets ≡ None → cond b (Some s) (find (is_set_at name t) sets) ≡ None
    by true e more = let h : Less ≡ Equal = sym behind.0 ∙ tied name t a s at e in cc
    by false e more = more

-- ---- the first of each
pub find_in : (name : DomainName) (t : RecordType) (a x : RRset) (sets : List RRset) → AllByRecursion (λ later. set_cmp a later ≡ Less) sets
    → find (is_set_at name t) sets ≡ Some x → set_cmp a x ≡ Less
find_in name t a x [] behind e = let h : ⊥ = cc in absurd h
find_in name t a x (s ∷ sets) behind e = by (is_set_at name t s) e (find_in name t a x sets behind.1)
  where
    by : (b : Bool) → cond b (Some s) (find (is_set_at name t) sets) ≡ Some x → (find (is_set_at name t) sets ≡ Some x → set_cmp a x ≡ Less) → set_cmp a x ≡ Less
    by true f more = let g : s ≡ x = cc in subst (λ (u : RRset). set_cmp a u ≡ Less) g behind.0
    by false f more = more f

first_or_behind : (name : DomainName) (t : RecordType) (x y : RRset) (ys : List RRset) → AreInOrder (y ∷ ys) → rrset_at (y ∷ ys) name t ≡ Some x
    → (x ≡ y) ⊎ (set_cmp y x ≡ Less)
first_or_behind name t x y ys order e = by (is_set_at name t y) e
  where
    by : (b : Bool) → cond b (Some y) (find (is_set_at name t) ys) ≡ Some x → (x ≡ y) ⊎ (set_cmp y x ≡ Less)
    by true f = let g : x ≡ y = cc in inl g
    by false f = inr (find_in name t y x ys order.0 f)

not_both : (x y : RRset) → set_cmp x y ≡ Less → set_cmp y x ≡ Less → ⊥
not_both x y below above =
    let h : Less ≡ Greater = sym below ∙ set_total.antisymm x y ∙ ap ordering_reverse above in
    let g : ⊥ = cc in g

pub found_first : (x : RRset) (xs : List RRset) → rrset_at (x ∷ xs) x.name x.record_type ≡ Some x
found_first x xs = ap (λ (b : Bool). cond b (Some x) (find (is_set_at x.name x.record_type) xs)) (own_set x)

same_first : (x y : RRset) → (x ≡ y) ⊎ (set_cmp y x ≡ Less) → (y ≡ x) ⊎ (set_cmp x y ≡ Less) → x ≡ y
same_first x y (inl e) other = e
same_first x y (inr above) (inl e) = sym e
same_first x y (inr above) (inr below) = absurd (not_both x y below above)

same_rest : (name : DomainName) (t : RecordType) (x : RRset) (xs ys : List RRset) (b : Bool) → is_set_at name t x ≡ b
    → AllByRecursion (λ later. set_cmp x later ≡ Less) xs → AllByRecursion (λ later. set_cmp x later ≡ Less) ys
    → cond b (Some x) (find (is_set_at name t) xs) ≡ cond b (Some x) (find (is_set_at name t) ys)
    → find (is_set_at name t) xs ≡ find (is_set_at name t) ys
same_rest name t x xs ys true at first second e = none_behind name t x xs at first ∙ sym (none_behind name t x ys at second)
same_rest name t x xs ys false at first second e = e

pub sets_once : (xs ys : List RRset) → AreInOrder xs → AreInOrder ys → ((name : DomainName) (t : RecordType) → rrset_at xs name t ≡ rrset_at ys name t) → xs ≡ ys
sets_once [] [] a b same = refl
sets_once [] (y ∷ ys) a b same = let h : None ≡ Some y = same y.name y.record_type ∙ found_first y ys in cc
sets_once (x ∷ xs) [] a b same = let h : Some x ≡ None = sym (found_first x xs) ∙ same x.name x.record_type in cc
sets_once (x ∷ xs) (y ∷ ys) a b same =
    let first : x ≡ y = same_first x y
    (first_or_behind x.name x.record_type x y ys b (sym (same x.name x.record_type) ∙ found_first x xs))
    (first_or_behind y.name y.record_type y x xs a (same y.name y.record_type ∙ found_first y ys)) in
    let behind : AllByRecursion (λ later. set_cmp x later ≡ Less) ys = subst (λ (u : RRset). AllByRecursion (λ later. set_cmp u later ≡ Less) ys) (sym first) b.0 in
    let rest : xs ≡ ys = sets_once xs ys a.1 b.1
    (λ name t. same_rest name t x xs ys (is_set_at name t x) refl a.0 behind
    (same name t ∙ ap (λ (u : RRset). rrset_at (u ∷ ys) name t) (sym first))) in
    ap (λ (u : RRset). u ∷ xs) first ∙ ap (λ (us : List RRset). y ∷ us) rest

pub adds_once : (old : Zone) (r : Record) (a b : Zone) → AddsTo old r a → AddsTo old r b → a ≡ b
adds_once old r a b first second =
    let same : a.sets ≡ b.sets = sets_once a.sets b.sets first.ordered second.ordered (λ name t. first.adds name t ∙ sym (second.adds name t)) in
    first.rest ∙ ap (λ (s : List RRset). record old { sets = s }) same ∙ sym second.rest
