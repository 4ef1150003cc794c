-- The first set of an owner and a type among sets in order.
use Rattle.std.proofs.Common.{◌≡◌, refl, sym, ap, ◌∙◌, subst}
use Rattle.std.specs.Prelude.{Bool, true, false, ◌&&◌, List, [], ◌∷◌, Some, cond, find}
use Rattle.std.specs.List.{AllByRecursion}
use Rattle.std.specs.Cmp.{nat_cmp_is}
use Rattle.std.specs.Ordering.{nat_cmp, is_eq, ordering_then}
use Rattle.std.specs.declared.cmp.Ordering.{Ordering}
use Rattle.std.specs.declared.cmp.Ordering.TheVariants.{Less, Equal, Greater}
use Rattle.std.proofs.lemmas.Bool.{and_parts, eqb-true, eq-eqb}
use Rattle.zsv_message.specs.zst_record.dnw_codes.declared.record_type.RecordType.{RecordType}
use Rattle.zsv_message.specs.zst_record.dnw_codes.RecordType.{record_type_number, same_record_type}
use Rattle.zsv_message.specs.zst_record.dnw_name.DomainName.{DomainName, name_cmp, name_eq}
use Rattle.zsv_message.specs.zst_record.dnw_name.NameOrderLaws.{name_eq-by_cmp}
use Rattle.zsv_message.specs.zst_record.RecordLaws.{name_eq_equiv}
use Rattle.zsv_message.specs.zst_record.RecordSets.{RRset}
use Rattle.authority_load.specs.zst_zone.zst_handler.Zones.{rrset_at, set_cmp}

abbrev pub is_set_at : DomainName → RecordType → RRset → Bool
is_set_at name t set = name_eq name set.name && same_record_type set.record_type t

is_equal : (o : Ordering) → is_eq o ≡ true → o ≡ Equal
is_equal Less e = cc
is_equal Equal e = refl
is_equal Greater e = cc

own_set : (a : RRset) → is_set_at a.name a.record_type a ≡ true
own_set a =
    let owner : name_eq a.name a.name ≡ true = name_eq_equiv.refl a.name in
    let kind : same_record_type a.record_type a.record_type ≡ true = eq-eqb (record_type_number a.record_type) (record_type_number a.record_type) refl in
    rw (owner, kind) refl

pub tied : (name : DomainName) (t : RecordType) (a b : RRset) → is_set_at name t a ≡ true → is_set_at name t b ≡ true → set_cmp a b ≡ Equal
tied name t a b at_a at_b =
    let p = and_parts (name_eq name a.name) (same_record_type a.record_type t) at_a in
    let q = and_parts (name_eq name b.name) (same_record_type b.record_type t) at_b in
    let named : name_eq a.name b.name ≡ true = sym (name_eq_equiv.congr name a.name b.name p.0) ∙ q.0 in
    let owner : name_cmp a.name b.name ≡ Equal = is_equal (name_cmp a.name b.name) (sym (name_eq-by_cmp a.name b.name) ∙ named) in
    let kind : record_type_number a.record_type ≡ record_type_number b.record_type =
    eqb-true (record_type_number a.record_type) (record_type_number t) p.1 ∙ sym (eqb-true (record_type_number b.record_type) (record_type_number t) q.1) in
    ap (λ (o : Ordering). ordering_then o (nat_cmp (record_type_number a.record_type) (record_type_number b.record_type))) owner
    ∙ sym (nat_cmp_is (record_type_number a.record_type) (record_type_number b.record_type) Equal kind)

pub find_in : (name : DomainName) (t : RecordType) (a x : RRset) (sets : List RRset) → AllByRecursion (λ later. set_cmp a later ≡ Less) sets
    → find (is_set_at name t) sets ≡ Some x → set_cmp a x ≡ Less
find_in name t a x [] behind e = let h : ⊥ = cc in absurd h
find_in name t a x (s ∷ sets) behind e = by (is_set_at name t s) e (find_in name t a x sets behind.1)
  where
    by : (b : Bool) → cond b (Some s) (find (is_set_at name t) sets) ≡ Some x → (find (is_set_at name t) sets ≡ Some x → set_cmp a x ≡ Less) → set_cmp a x ≡ Less
    by true f more = let g : s ≡ x = cc in subst (λ (u : RRset). set_cmp a u ≡ Less) g behind.0
    by false f more = more f

pub found_first : (x : RRset) (xs : List RRset) → rrset_at (x ∷ xs) x.name x.record_type ≡ Some x
found_first x xs = ap (λ (b : Bool). cond b (Some x) (find (is_set_at x.name x.record_type) xs)) (own_set x)
