-- Laws of the order of record data of every type.
use Rattle.std.proofs.Common.{◌≡◌, ℕ, zero, suc, ◌==◌, ◌++◌, Bool, true, false, if◌then◌else◌, List, [], Option, Some, None, refl, sym, ap, subst, ◌∙◌, arith}
use Rattle.std.proofs.lemmas.Cmp.{then_total, on_total, nat_cmp_total}
use Rattle.std.specs.Cmp.{IsTotalOrder, Equal-is}
use Rattle.std.specs.Cmp.Lexicographic.{options_total, texts_ties}
use Rattle.std.specs.Option.{option_cmp}
use Rattle.std.specs.Ordering.{nat_cmp, eq_by_cmp, is_eq, ordering_then}
use Rattle.std.specs.declared.cmp.Ordering.{Ordering}
use Rattle.std.specs.declared.cmp.Ordering.TheVariants.{Less, Equal, Greater}
use Rattle.std.specs.Cmp.{IsEquivalence, ranked, nat_cmp_is}
use Rattle.std.proofs.lemmas.Cmp.{eq_by_cmp_equiv}
use Rattle.std.specs.Hash as fed
use Rattle.std.specs.Hash.{HashWrites}
use Rattle.drd_types.specs.dnw_codes.declared.record_type.RecordType.{RecordType}
use Rattle.drd_types.specs.dnw_codes.RecordType.{record_type_of}
use Rattle.drd_types.specs.drd_fields.Fields.{AreOrdered, Field, Kind, kinds_of}
use Rattle.drd_types.specs.drd_fields.Order.{Orders, fields_cmp, fields_input}
use Rattle.drd_types.specs.drd_fields.Equality.{AreFull, Tells}
use Rattle.drd_types.specs.drd_fields.Writing.{canonical_octets}
use Rattle.drd_types.specs.drd_plain.Fields.{null_kinds}
use Rattle.drd_rdata.specs.Fields.{kinds_for, rdata_fields}
use Rattle.drd_rdata.specs.RowsLaws.{in_order, is_ordered, ordered_by}
use Rattle.drd_types.proofs.drd_fields_lemmas.EqualityLaws.{same_octets, found_same, true_or_false}
use Rattle.drd_types.proofs.drd_fields_lemmas.OrderLaws.{fields_total, fields_ties, fields-alike}
use Rattle.drd_types.proofs.drd_fields_lemmas.OrderLaws.{data_total as fields_data_total}
use Rattle.drd_svcb.specs.Fields.{svcb_code}
use Rattle.drd_svcb.specs.Hashing.{svcb_input}
use Rattle.drd_svcb.specs.HashingLaws.{svcb-alike}
use Rattle.drd_names_keys.specs.drd_csync.Order.{csync_cmp, csync_input}
use Rattle.drd_names_keys.specs.drd_csync.OrderLaws.{csync_total, csync_ties, csync_fed}
use Rattle.drd_types.specs.drd_opt.OrderLaws.{entries_total, entries_tie}
use Rattle.drd_types.specs.drd_opt.EqualityLaws.{entries_fed}
use Rattle.drd_types.specs.drd_opt.Equality.{entries_input}
use Rattle.drd_names_keys.specs.drd_csync.declared.csync.CSYNC.{CSYNC}
use Rattle.drd_svcb.specs.declared.https.HTTPS.{HTTPS}
use Rattle.drd_types.specs.drd_opt.declared.opt.OPT.{OPT}
use Rattle.drd_svcb.specs.declared.svcb.SVCB.{SVCB}
use Rattle.drd_rdata.specs.declared.rdata.RData.{RData}
use Rattle.drd_rdata.specs.declared.rdata.RData.TheVariants as rdata
use Rattle.drd_rdata.specs.Order.{HasCanonical, type_number, data_form, compared_fields, csync_of, opt_of, svcb_of, opt_cmp, svcb_cmp, data_cmp, rdata_cmp, rdata_eq, data_input, rdata_input}

data_total : IsTotalOrder data_cmp
data_total =
    then_total (on_total compared_fields fields_total)
    (then_total (on_total csync_of (options_total csync_total))
    (then_total (on_total opt_of (options_total entries_total))
    (on_total svcb_of (options_total (fields_data_total svcb_code)))))

pub rdata_total : IsTotalOrder rdata_cmp
rdata_total =
    then_total (on_total type_number nat_cmp_total)
    (then_total (on_total data_form nat_cmp_total) data_total)

then_equal : (o : Ordering) → ordering_then o Equal ≡ o
then_equal Less = refl
then_equal Equal = refl
then_equal Greater = refl

then_first : (o p : Ordering) → ordering_then o p ≡ Equal → o ≡ Equal
then_first Less p e = e
then_first Equal p e = refl
then_first Greater p e = e

then_second : (o p : Ordering) → ordering_then o p ≡ Equal → p ≡ Equal
then_second Less p e = absurd (cc e)
then_second Equal p e = e
then_second Greater p e = absurd (cc e)

-- Of these types data stand alone with their number and form.
pub only_csync : (other : RData) → type_number other ≡ 62 → data_form other ≡ 1
    → (csync : CSYNC) × (other ≡ rdata.CSYNC csync)
only_csync (rdata.CSYNC csync) number own = (csync, refl)
only_csync other number own = absurd (omega (arith, number, own))

pub only_https : (other : RData) → type_number other ≡ 65 → data_form other ≡ 1
    → (https : HTTPS) × (other ≡ rdata.HTTPS https)
only_https (rdata.HTTPS https) number own = (https, refl)
only_https other number own = absurd (omega (arith, number, own))

pub only_opt : (other : RData) → type_number other ≡ 41 → data_form other ≡ 1
    → (opt : OPT) × (other ≡ rdata.OPT opt)
only_opt (rdata.OPT opt) number own = (opt, refl)
only_opt other number own = absurd (omega (arith, number, own))

pub only_svcb : (other : RData) → type_number other ≡ 64 → data_form other ≡ 1
    → (svcb : SVCB) × (other ≡ rdata.SVCB svcb)
only_svcb (rdata.SVCB svcb) number own = (svcb, refl)
only_svcb other number own = absurd (omega (arith, number, own))

-- Data that are compared field by field.
abbrev pub is_listed : RData → Bool
is_listed (rdata.CSYNC csync) = false
is_listed (rdata.HTTPS https) = false
is_listed (rdata.OPT opt) = false
is_listed (rdata.SVCB svcb) = false
is_listed other = true

listed_by : (v : RData) → ((x : CSYNC) → v ≡ rdata.CSYNC x → ⊥)
    → ((x : HTTPS) → v ≡ rdata.HTTPS x → ⊥) → ((x : OPT) → v ≡ rdata.OPT x → ⊥)
    → ((x : SVCB) → v ≡ rdata.SVCB x → ⊥) → is_listed v ≡ true
listed_by (rdata.CSYNC x) csync https opt svcb = absurd (csync x refl)
listed_by (rdata.HTTPS x) csync https opt svcb = absurd (https x refl)
listed_by (rdata.OPT x) csync https opt svcb = absurd (opt x refl)
listed_by (rdata.SVCB x) csync https opt svcb = absurd (svcb x refl)
listed_by other csync https opt svcb = refl

-- The number and the form tell the kinds of the fields.
abbrev kinds_told : ℕ → ℕ → List Kind
kinds_told number zero = []
kinds_told number (suc zero) = if number == 0 then [] else kinds_for (record_type_of number)
kinds_told number form = null_kinds

told_kinds : (v : RData) → is_listed v ≡ true
    → kinds_of (rdata_fields v) ≡ kinds_told (type_number v) (data_form v)
told_kinds (rdata.CSYNC csync) listed = absurd (cc listed)
told_kinds (rdata.HTTPS https) listed = absurd (cc listed)
told_kinds (rdata.OPT opt) listed = absurd (cc listed)
told_kinds (rdata.SVCB svcb) listed = absurd (cc listed)
told_kinds other listed = refl

ordered_told : (b : Bool) (t : RecordType) → is_ordered (if b then [] else kinds_for t) ≡ true
ordered_told true t = refl
ordered_told false t = in_order t

told_order : (number form : ℕ) → is_ordered (kinds_told number form) ≡ true
told_order number zero = refl
told_order number (suc zero) = ordered_told (number == 0) (record_type_of number)
told_order number form = refl

listed_fields : (v : RData) → is_listed v ≡ true → compared_fields v ≡ rdata_fields v
listed_fields (rdata.CSYNC csync) listed = absurd (cc listed)
listed_fields (rdata.HTTPS https) listed = absurd (cc listed)
listed_fields (rdata.OPT opt) listed = absurd (cc listed)
listed_fields (rdata.SVCB svcb) listed = absurd (cc listed)
listed_fields other listed = refl

listed_has : (v : RData) (octets : List ℕ) → is_listed v ≡ true → HasCanonical v octets
    → AreFull (compared_fields v) × (octets ≡ canonical_octets (compared_fields v))
listed_has (rdata.CSYNC csync) octets listed has = absurd (cc listed)
listed_has (rdata.HTTPS https) octets listed has = absurd (cc listed)
listed_has (rdata.OPT opt) octets listed has = absurd (cc listed)
listed_has (rdata.SVCB svcb) octets listed has = absurd (cc listed)
listed_has other octets listed has = has

-- Data that are compared field by field are no sets, no options and no services.
listed_none : (v : RData) → is_listed v ≡ true
    → (csync_of v ≡ None) × (opt_of v ≡ None) × (svcb_of v ≡ None)
listed_none (rdata.CSYNC csync) listed = absurd (cc listed)
listed_none (rdata.HTTPS https) listed = absurd (cc listed)
listed_none (rdata.OPT opt) listed = absurd (cc listed)
listed_none (rdata.SVCB svcb) listed = absurd (cc listed)
listed_none other listed = (refl, refl, refl)

-- The order of two that are none of these, and of one number and form.
pub record IsListed (a b : RData) : Type 0 where
  pub first : is_listed a ≡ true
  pub second : is_listed b ≡ true
  pub kinds : kinds_of (compared_fields a) ≡ kinds_of (compared_fields b)
  pub ordered : AreOrdered (kinds_of (compared_fields a))

pub both_listed : (a b : RData) → type_number a ≡ type_number b → data_form a ≡ data_form b
    → ((x : CSYNC) → a ≡ rdata.CSYNC x → ⊥) → ((x : HTTPS) → a ≡ rdata.HTTPS x → ⊥)
    → ((x : OPT) → a ≡ rdata.OPT x → ⊥) → ((x : SVCB) → a ≡ rdata.SVCB x → ⊥) → IsListed a b
both_listed a b n f csync https opt svcb =
    let first = listed_by a csync https opt svcb in
    let second =
    listed_by b
    (λ x e. let y = only_csync a (n ∙ ap type_number e) (f ∙ ap data_form e) in csync y.0 y.1)
    (λ x e. let y = only_https a (n ∙ ap type_number e) (f ∙ ap data_form e) in https y.0 y.1)
    (λ x e. let y = only_opt a (n ∙ ap type_number e) (f ∙ ap data_form e) in opt y.0 y.1)
    (λ x e. let y = only_svcb a (n ∙ ap type_number e) (f ∙ ap data_form e) in svcb y.0 y.1) in
    let kinds_a = ap kinds_of (listed_fields a first) ∙ told_kinds a first in
    let kinds_b = ap kinds_of (listed_fields b second) ∙ told_kinds b second in
    record {
      first = first;
      second = second;
      kinds =
          kinds_a ∙ ap (λ (k : ℕ). kinds_told k (data_form a)) n
          ∙ ap (kinds_told (type_number b)) f ∙ sym kinds_b;
      ordered =
          subst AreOrdered (sym kinds_a)
          (ordered_by (kinds_told (type_number a) (data_form a))
          (told_order (type_number a) (data_form a)));
    }

pub listed_cmp : (a b : RData) → IsListed a b → (r : Ordering)
    → r ≡ fields_cmp (compared_fields a) (compared_fields b) → r ≡ data_cmp a b
listed_cmp a b both r e =
    let x = listed_none a both.first in
    let y = listed_none b both.second in
    let none : ordering_then (option_cmp csync_cmp (csync_of a) (csync_of b))
    (ordering_then (option_cmp opt_cmp (opt_of a) (opt_of b))
    (option_cmp svcb_cmp (svcb_of a) (svcb_of b)))
    ≡ Equal = rw (x.0, y.0, x.1, y.1, x.2, y.2) refl in
    e
    ∙ sym
    (ap (ordering_then (fields_cmp (compared_fields a) (compared_fields b))) none
    ∙ then_equal (fields_cmp (compared_fields a) (compared_fields b)))

pub listed_orders : (a b : RData) → IsListed a b → (r : Ordering)
    → (kinds_of (compared_fields a) ≡ kinds_of (compared_fields b)
    → AreOrdered (kinds_of (compared_fields a)) → AreFull (compared_fields a)
    → AreFull (compared_fields b)
    → Orders r (canonical_octets (compared_fields a)) (canonical_octets (compared_fields b)))
    → (xs ys : List ℕ) → HasCanonical a xs → HasCanonical b ys → Orders r xs ys
listed_orders a b both r orders xs ys p q =
    let x = listed_has a xs both.first p in
    let y = listed_has b ys both.second q in
    rw (x.1, y.1) (orders both.kinds both.ordered x.0 y.0)

-- Sets, options and services, one of a type behind another.
pub sets_alone : (a b : CSYNC) (r : Ordering) → r ≡ csync_cmp a b
    → r ≡ data_cmp (rdata.CSYNC a) (rdata.CSYNC b)
sets_alone a b r e = e ∙ sym (then_equal (csync_cmp a b))

pub options_alone : (a b : OPT) (r : Ordering) → r ≡ opt_cmp a b
    → r ≡ data_cmp (rdata.OPT a) (rdata.OPT b)
options_alone a b r e = e ∙ sym (then_equal (opt_cmp a b))

-- What is fed of data that are compared field by field.
pub listed_input : (v : RData) → ((x : CSYNC) → v ≡ rdata.CSYNC x → ⊥)
    → ((x : HTTPS) → v ≡ rdata.HTTPS x → ⊥) → ((x : OPT) → v ≡ rdata.OPT x → ⊥)
    → ((x : SVCB) → v ≡ rdata.SVCB x → ⊥) → data_input v ≡ fields_input (compared_fields v)
listed_input (rdata.CSYNC x) csync https opt svcb = absurd (csync x refl)
listed_input (rdata.HTTPS x) csync https opt svcb = absurd (https x refl)
listed_input (rdata.OPT x) csync https opt svcb = absurd (opt x refl)
listed_input (rdata.SVCB x) csync https opt svcb = absurd (svcb x refl)
listed_input other csync https opt svcb = refl

-- An order of octets tells whether they are the same.
pub ordered_tells : (o : Ordering) (xs ys : List ℕ) → Orders o xs ys → Tells (is_eq o) xs ys
ordered_tells o xs ys ordered = record {
  equal = λ e. same_octets xs ys (texts_ties xs ys ∙ ap is_eq (sym ordered) ∙ e);
  other =
      λ e same. true_or_false (is_eq o)
      (ap is_eq ordered ∙ sym (texts_ties xs ys) ∙ found_same xs ys same) e;
}

pub rdata_equiv : IsEquivalence rdata_eq
rdata_equiv = eq_by_cmp_equiv rdata_total

pub rdata_ties : (a b : RData) → rdata_eq a b ≡ eq_by_cmp rdata_cmp a b
rdata_ties a b = refl

-- Of one type and form the data decide.
pub data_decide : (a b : RData) → type_number a ≡ type_number b → data_form a ≡ data_form b
    → rdata_cmp a b ≡ data_cmp a b
data_decide a b n f =
    ap
    (λ (o : Ordering). ordering_then o
    (ordering_then (nat_cmp (data_form a) (data_form b)) (data_cmp a b)))
    (sym (nat_cmp_is (type_number a) (type_number b) Equal n))
    ∙ ap (λ (o : Ordering). ordering_then o (data_cmp a b))
    (sym (nat_cmp_is (data_form a) (data_form b) Equal f))

-- Equal data feed a hasher the same.

input_csync : (v : RData) (x : CSYNC) → csync_of v ≡ Some x → data_input v ≡ csync_input x
input_csync (rdata.CSYNC csync) x e = ap csync_input (cc e)
input_csync other x e = absurd (cc e)

input_opt : (v : RData) (x : OPT) → opt_of v ≡ Some x → data_input v ≡ entries_input x.options.items
input_opt (rdata.OPT opt) x e =
    let same : opt ≡ x = cc e in ap (λ (o : OPT). entries_input o.options.items) same
input_opt other x e = absurd (cc e)

input_svcb : (v : RData) (x : SVCB) → svcb_of v ≡ Some x → data_input v ≡ svcb_input x
input_svcb (rdata.SVCB svcb) x e = let same : svcb ≡ x = cc e in ap svcb_input same
input_svcb (rdata.HTTPS https) x e = let same : https.0 ≡ x = cc e in ap svcb_input same
input_svcb other x e = absurd (cc e)

input_fields : (v : RData) → csync_of v ≡ None → opt_of v ≡ None → svcb_of v ≡ None
    → data_input v ≡ fields_input (compared_fields v)
input_fields (rdata.CSYNC csync) e f g = absurd (cc e)
input_fields (rdata.OPT opt) e f g = absurd (cc f)
input_fields (rdata.SVCB svcb) e f g = absurd (cc g)
input_fields (rdata.HTTPS https) e f g = absurd (cc g)
input_fields other e f g = refl

fed_fields : (fs gs : List Field) → fields_cmp fs gs ≡ Equal → fields_input fs ≡ fields_input gs
fed_fields fs gs e = fields-alike fs gs (fields_ties fs gs ∙ ap is_eq e)

fed_csync : (a b : CSYNC) → csync_cmp a b ≡ Equal → csync_input a ≡ csync_input b
fed_csync a b e = csync_fed a b (csync_ties a b ∙ ap is_eq e)

fed_opt : (a b : OPT) → opt_cmp a b ≡ Equal
    → entries_input a.options.items ≡ entries_input b.options.items
fed_opt a b e = entries_fed a b (entries_tie a b ∙ ap is_eq e)

fed_svcb : (a b : SVCB) → svcb_cmp a b ≡ Equal → svcb_input a ≡ svcb_input b
fed_svcb a b e = svcb-alike a b (fields_ties (svcb_code a) (svcb_code b) ∙ ap is_eq e)

fed_data : (a b : RData) (o p : Option CSYNC) (q r : Option OPT) (s t : Option SVCB)
    → csync_of a ≡ o → csync_of b ≡ p → opt_of a ≡ q → opt_of b ≡ r → svcb_of a ≡ s → svcb_of b ≡ t
    → fields_cmp (compared_fields a) (compared_fields b) ≡ Equal → option_cmp csync_cmp o p ≡ Equal
    → option_cmp opt_cmp q r ≡ Equal → option_cmp svcb_cmp s t ≡ Equal → data_input a ≡ data_input b
fed_data a b (Some x) (Some y) q r s t oa ob qa qb sa sb e f g h =
    input_csync a x oa ∙ fed_csync x y f ∙ sym (input_csync b y ob)
fed_data a b (Some x) None q r s t oa ob qa qb sa sb e f g h = absurd (cc f)
fed_data a b None (Some y) q r s t oa ob qa qb sa sb e f g h = absurd (cc f)
fed_data a b None None (Some x) (Some y) s t oa ob qa qb sa sb e f g h =
    input_opt a x qa ∙ fed_opt x y g ∙ sym (input_opt b y qb)
fed_data a b None None (Some x) None s t oa ob qa qb sa sb e f g h = absurd (cc g)
fed_data a b None None None (Some y) s t oa ob qa qb sa sb e f g h = absurd (cc g)
fed_data a b None None None None (Some x) (Some y) oa ob qa qb sa sb e f g h =
    input_svcb a x sa ∙ fed_svcb x y h ∙ sym (input_svcb b y sb)
fed_data a b None None None None (Some x) None oa ob qa qb sa sb e f g h = absurd (cc h)
fed_data a b None None None None None (Some y) oa ob qa qb sa sb e f g h = absurd (cc h)
fed_data a b None None None None None None oa ob qa qb sa sb e f g h =
    input_fields a oa qa sa ∙ fed_fields (compared_fields a) (compared_fields b) e
    ∙ sym (input_fields b ob qb sb)

pub rdata_fed : (a b : RData) → rdata_eq a b ≡ true → rdata_input a ≡ rdata_input b
rdata_fed a b e =
    let all : rdata_cmp a b ≡ Equal = (Equal-is (rdata_cmp a b)).0 e in
    let numbers = nat_cmp (type_number a) (type_number b) in
    let forms = nat_cmp (data_form a) (data_form b) in
    let sets = option_cmp csync_cmp (csync_of a) (csync_of b) in
    let opts = option_cmp opt_cmp (opt_of a) (opt_of b) in
    let fields = fields_cmp (compared_fields a) (compared_fields b) in
    let behind = then_second numbers (ordering_then forms (data_cmp a b)) all in
    let datas = then_second forms (data_cmp a b) behind in
    let services = option_cmp svcb_cmp (svcb_of a) (svcb_of b) in
    let rest = then_second fields (ordering_then sets (ordering_then opts services)) datas in
    let last = then_second sets (ordering_then opts services) rest in
    let number : type_number a ≡ type_number b =
    ranked (type_number a) (type_number b) Equal
    (sym (then_first numbers (ordering_then forms (data_cmp a b)) all)) in
    let own : data_form a ≡ data_form b =
    ranked (data_form a) (data_form b) Equal
    (sym (then_first forms (data_cmp a b) behind)) in
    let same =
    fed_data a b (csync_of a) (csync_of b) (opt_of a) (opt_of b) (svcb_of a) (svcb_of b)
    refl refl refl refl refl refl
    (then_first fields (ordering_then sets (ordering_then opts services)) datas)
    (then_first sets (ordering_then opts services) rest) (then_first opts services last)
    (then_second opts services last) in
    ap (λ (n : ℕ). fed.u16 n ++ (fed.u8 (data_form a) ++ data_input a)) number
    ∙ ap (λ (n : ℕ). fed.u16 (type_number b) ++ (fed.u8 n ++ data_input a)) own
    ∙ ap (λ (w : HashWrites). fed.u16 (type_number b) ++ (fed.u8 (data_form b) ++ w)) same
