-- Sets of the same records are the same.
use Rattle.std.proofs.Common.{◌≡◌, ◌⊎◌, ◌∙◌, inl, inr, refl, sym, ap, subst}
use Rattle.std.specs.Prelude.{Bool, true, false, not, ◌&&◌, List, [], ◌∷◌, Option, Some, None, cond}
use Rattle.std.specs.List.{AllByRecursion}
use Rattle.std.specs.declared.cmp.Ordering.TheVariants.{Less, Greater}
use Rattle.std.specs.Ordering.{ordering_reverse}
use Rattle.std.specs.Cmp.{IsTotalOrder}
use Rattle.std.specs.Cmp.Rules.{comparing}
use Rattle.std.proofs.Common.{rules}
use Rattle.std.proofs.lemmas.Bool.{true≢false}
use Rattle.zsv_message.specs.zst_record.dnw_codes.DNSClass.{same_class}
use Rattle.zsv_message.specs.zst_record.dnw_codes.declared.dns_class.DNSClass.{DNSClass}
use Rattle.zsv_message.specs.zst_record.dnw_codes.declared.record_type.RecordType.{RecordType}
use Rattle.zsv_message.specs.zst_record.dnw_codes.declared.record_type.RecordType.TheVariants as kind
use Rattle.zsv_message.specs.zst_record.dnw_codes.RecordType.{same_record_type}
use Rattle.zsv_message.specs.zst_record.dnw_name.DomainName.{DomainName, name_eq}
use Rattle.zsv_message.specs.zst_record.drd_rdata.Order.{rdata_eq}
use Rattle.drd_record_data.specs.drd_rdata.OrderLaws.{rdata_equiv}
use Rattle.zsv_message.specs.zst_record.drd_rdata.Types.{type_of}
use Rattle.zsv_message.specs.zst_record.declared.records.Record.{Record}
use Rattle.zsv_message.specs.zst_record.RecordSets.{RRset, first_of_put, put_record, set_of, set_with, with_one}
use Rattle.authority_load.specs.zst_zone.zst_handler.Zones.{AreInOrder, rrset_at, set_cmp}
use Rattle.authority_transfer.proofs.Orders.{find_in, found_first}
use Rattle.authority_transfer.specs.Alike.{AllSame, IsSameRecord, IsSameSet, SameOption}
use Rattle.authority_load.specs.Joining.{joined}
use Rattle.authority_transfer.proofs.Keys.{Key, alone, record_of, set_of_key}

pub of_same : (key : Key) (r s : Record) → IsSameRecord r s → record_of key r ≡ record_of key s
of_same key r s same =
    ap (λ (n : DomainName). name_eq key.0 n && same_record_type (type_of r.rdata) key.1) same.name
    ∙ ap (λ (t : RecordType). name_eq key.0 s.name && same_record_type t key.1) same.of_type

-- ---- a record more
eq_same : (a b r s : Record) → IsSameRecord a b → IsSameRecord r s → rdata_eq a.rdata r.rdata ≡ rdata_eq b.rdata s.rdata
eq_same a b r s first other =
    rdata_equiv.congr a.rdata b.rdata r.rdata first.rdata
    ∙ rdata_equiv.symm b.rdata r.rdata ∙ rdata_equiv.congr r.rdata s.rdata b.rdata other.rdata ∙ rdata_equiv.symm s.rdata b.rdata

put_same : (xs0 bs : List Record) (r s : Record) → AllSame IsSameRecord xs0 bs → IsSameRecord r s → AllSame IsSameRecord (put_record xs0 r) (put_record bs s)
put_same [] [] r s same new = (new, tt)
put_same [] (b ∷ bs) r s same new = absurd same
put_same (a ∷ xs0) [] r s same new = absurd same
put_same (a ∷ xs0) (b ∷ bs) r s same new = by (rdata_eq a.rdata r.rdata) (rdata_eq b.rdata s.rdata) (eq_same a b r s same.0 new) (put_same xs0 bs r s same.1 new)
  where
    by : (x y : Bool) → x ≡ y → AllSame IsSameRecord (put_record xs0 r) (put_record bs s) → AllSame IsSameRecord (cond x (r ∷ xs0) (a ∷ put_record xs0 r)) (cond y (s ∷ bs) (b ∷ put_record bs s))
    by true true e more = (new, same.1)
    by false false e more = (same.0, more)
    by true false e more = absurd (true≢false e)
    by false true e more = absurd (true≢false (sym e))

first_same : {X : Type 0} (x y u v : X) (xs0 bs : List Record) (r s : Record) → AllSame IsSameRecord xs0 bs → IsSameRecord r s → x ≡ u → y ≡ v → first_of_put x y xs0 r ≡ first_of_put u v bs s
first_same x y u v [] [] r s same new e f = e
first_same x y u v [] (b ∷ bs) r s same new e f = absurd same
first_same x y u v (a ∷ xs0) [] r s same new e f = absurd same
first_same x y u v (a ∷ xs0) (b ∷ bs) r s same new e f = ap (λ z. cond (rdata_eq a.rdata r.rdata) z y) e ∙ ap (λ z. cond (rdata_eq a.rdata r.rdata) u z) f ∙ ap (λ (c : Bool). cond c u v) (eq_same a b r s same.0 new)

of_one : (r s : Record) → IsSameRecord r s → IsSameSet (set_of r) (set_of s)
of_one r s same = record { name = same.name; dns_class = same.dns_class; record_type = same.of_type; records = (same, tt); signatures = tt }

with_same : (b : Bool) (set other : RRset) (r s : Record) → IsSameSet set other → IsSameRecord r s → IsSameSet (with_one b set r) (with_one b other s)
with_same true set other r s same new = record { name = new.name; dns_class = new.dns_class; record_type = same.record_type; records = (new, tt); signatures = tt }
with_same false set other r s same new = record {
  name = first_same r.name set.name s.name other.name set.records other.records r s same.records new new.name same.name;
  dns_class = first_same r.dns_class set.dns_class s.dns_class other.dns_class set.records other.records r s same.records new new.dns_class same.dns_class;
  record_type = same.record_type;
  records = put_same set.records other.records r s same.records new;
  signatures = tt;
}

set_same : (o p : Option RRset) (r s : Record) → SameOption IsSameSet o p → IsSameRecord r s → IsSameSet (set_with o r) (set_with p s)
set_same None None r s same new = of_one r s new
set_same None (Some p) r s same new = absurd same
set_same (Some o) None r s same new = absurd same
set_same (Some o) (Some p) r s same new =
    let classes : same_class r.dns_class o.dns_class ≡ same_class s.dns_class p.dns_class = ap (λ (c : DNSClass). same_class c o.dns_class) new.dns_class ∙ ap (same_class s.dns_class) same.dns_class in
    subst (λ (b : Bool). IsSameSet (with_one (not (same_class r.dns_class o.dns_class)) o r) (with_one (not b) p s)) classes
    (with_same (not (same_class r.dns_class o.dns_class)) o p r s same new)

pub joined_same : (o p : Option RRset) (r s : Record) → SameOption IsSameSet o p → IsSameRecord r s → IsSameSet (joined o r) (joined p s)
joined_same o p r s same new = by (same_record_type (type_of r.rdata) kind.ANAME) (same_record_type (type_of s.rdata) kind.ANAME) (ap (λ (t : RecordType). same_record_type t kind.ANAME) new.of_type)
  where
    by : (a b : Bool) → a ≡ b → IsSameSet (cond a (set_of r) (set_with o r)) (cond b (set_of s) (set_with p s))
    by true true e = of_one r s new
    by false false e = set_same o p r s same new
    by true false e = absurd (true≢false e)
    by false true e = absurd (true≢false (sym e))

-- ---- sets in order
set_total : IsTotalOrder set_cmp
set_total = Prim.search (comparing, rules) depth 12

not_both : (x y : RRset) → set_cmp x y ≡ Less → set_cmp y x ≡ Less → ⊥
not_both x y below above =
    let h : Less ≡ Greater = sym below ∙ set_total.antisymm x y ∙ ap ordering_reverse above in
    let g : ⊥ = cc in g

key_of : RRset → Key
key_of set = (set.name, set.record_type)

-- What is found under a set's own name and type: the first set, or a later one.
record Finds (x y : RRset) : Type 0 where
  set : RRset
  same : IsSameSet x set
  place : (set ≡ y) ⊎ (set_cmp y set ≡ Less)

finds : (x y : RRset) (ys : List RRset) → AllByRecursion (λ later. set_cmp y later ≡ Less) ys → SameOption IsSameSet (Some x) (rrset_at (y ∷ ys) x.name x.record_type) → Finds x y
finds x y ys order same = by (set_of_key (x.name, x.record_type) y) (rrset_at ys x.name x.record_type) refl same
  where
    by : (b : Bool) (o : Option RRset) → rrset_at ys x.name x.record_type ≡ o → SameOption IsSameSet (Some x) (cond b (Some y) (rrset_at ys x.name x.record_type)) → Finds x y
    by true o e s = record { set = y; same = s; place = inl refl }
    by false None e s = absurd (subst (λ (p : Option RRset). SameOption IsSameSet (Some x) p) e s)
    by false (Some z) e s = record { set = z; same = subst (λ (p : Option RRset). SameOption IsSameSet (Some x) p) e s; place = inr (find_in x.name x.record_type y z ys order e) }

cmp_right : (a x y : RRset) → IsSameSet x y → set_cmp a x ≡ set_cmp a y
cmp_right a x y same = ap (λ (n : DomainName). set_cmp a (record x { name = n })) same.name ∙ ap (λ (t : RecordType). set_cmp a (record x { name = y.name; record_type = t })) same.record_type

turn_record : (r s : Record) → IsSameRecord r s → IsSameRecord s r
turn_record r s same = record {
  name = sym same.name;
  dns_class = sym same.dns_class;
  ttl = sym same.ttl;
  of_type = sym same.of_type;
  target = sym same.target;
  rdata = rdata_equiv.symm s.rdata r.rdata ∙ same.rdata;
}

turn_all : (rs ss : List Record) → AllSame IsSameRecord rs ss → AllSame IsSameRecord ss rs
turn_all [] [] same = tt
turn_all [] (s ∷ ss) same = absurd same
turn_all (r ∷ rs) [] same = absurd same
turn_all (r ∷ rs) (s ∷ ss) same = (turn_record r s same.0, turn_all rs ss same.1)

turn : (a b : RRset) → IsSameSet a b → IsSameSet b a
turn a b same = record { name = sym same.name; dns_class = sym same.dns_class; record_type = sym same.record_type; records = turn_all a.records b.records same.records; signatures = turn_all a.signatures b.signatures same.signatures }

turn_option : (o p : Option RRset) → SameOption IsSameSet o p → SameOption IsSameSet p o
turn_option None None same = tt
turn_option None (Some p) same = absurd same
turn_option (Some o) None same = absurd same
turn_option (Some o) (Some p) same = turn o p same

first_two : (x y : RRset) → Finds x y → Finds y x → IsSameSet x y
first_two x y a b = elim a.place [
  | inl e ↦ subst (IsSameSet x) e a.same
  | inr below ↦ elim b.place [
    | inl e ↦ turn y x (subst (IsSameSet y) e b.same)
    | inr above ↦ absurd (not_both y x (cmp_right y x a.set a.same ∙ below) (cmp_right x y b.set b.same ∙ above))
  ]
]

pub key_same : (x y : RRset) (key : Key) → IsSameSet x y → set_of_key key x ≡ set_of_key key y
key_same x y key same = ap (λ (n : DomainName). name_eq key.0 n && same_record_type x.record_type key.1) same.name ∙ ap (λ (t : RecordType). name_eq key.0 y.name && same_record_type t key.1) same.record_type

rest_same : (x y : RRset) (xs ys : List RRset) → IsSameSet x y → AllByRecursion (λ later. set_cmp x later ≡ Less) xs → AllByRecursion (λ later. set_cmp y later ≡ Less) ys → (key : Key)
    → SameOption IsSameSet (rrset_at (x ∷ xs) key.0 key.1) (rrset_at (y ∷ ys) key.0 key.1) → SameOption IsSameSet (rrset_at xs key.0 key.1) (rrset_at ys key.0 key.1)
rest_same x y xs ys first order other key same = by (set_of_key key x) (set_of_key key y) refl refl (key_same x y key first) same
  where
    by : (b c : Bool) → set_of_key key x ≡ b → set_of_key key y ≡ c → b ≡ c → SameOption IsSameSet (cond b (Some x) (rrset_at xs key.0 key.1)) (cond c (Some y) (rrset_at ys key.0 key.1))
        → SameOption IsSameSet (rrset_at xs key.0 key.1) (rrset_at ys key.0 key.1)
    by false false e f g s = s
    by true true e f g s =
        subst (λ (o : Option RRset). SameOption IsSameSet o (rrset_at ys key.0 key.1)) (sym (alone key x xs order e))
        (subst (λ (o : Option RRset). SameOption IsSameSet None o) (sym (alone key y ys other f)) tt)
    by true false e f g s = absurd (true≢false g)
    by false true e f g s = absurd (true≢false (sym g))

-- Sets in order of which the same are found are the same.
pub sets_same : (xs ys : List RRset) → AreInOrder xs → AreInOrder ys → ((key : Key) → SameOption IsSameSet (rrset_at xs key.0 key.1) (rrset_at ys key.0 key.1)) → AllSame IsSameSet xs ys
sets_same [] [] a b same = tt
sets_same [] (y ∷ ys) a b same = absurd (subst (λ (o : Option RRset). SameOption IsSameSet None o) (found_first y ys) (same (y.name, y.record_type)))
sets_same (x ∷ xs) [] a b same = absurd (subst (λ (o : Option RRset). SameOption IsSameSet o None) (found_first x xs) (same (x.name, x.record_type)))
sets_same (x ∷ xs) (y ∷ ys) a b same =
    let first = first_two x y
    (finds x y ys b.0 (subst (λ (o : Option RRset). SameOption IsSameSet o (rrset_at (y ∷ ys) x.name x.record_type)) (found_first x xs) (same (x.name, x.record_type))))
    (finds y x xs a.0 (turn_option (rrset_at (x ∷ xs) y.name y.record_type) (Some y) (subst (λ (o : Option RRset). SameOption IsSameSet (rrset_at (x ∷ xs) y.name y.record_type) o) (found_first y ys) (same (y.name, y.record_type))))) in
    (first, sets_same xs ys a.1 b.1 (λ key. rest_same x y xs ys first a.0 b.0 key (same key)))
