-- A set of a loaded zone is made of its records, one after the other.
use Rattle.std.proofs.Common.{◌≡◌, ◌∙◌, refl, sym, ap, subst, ◌≤◌, length, arith}
use Rattle.std.specs.Prelude.{Bool, true, false, not, ◌||◌, List, [], ◌∷◌, ◌++◌, Option, Some, None, cond}
use Rattle.std.specs.List.{AllByRecursion}
use Rattle.std.proofs.lemmas.Bool.{true≢false}
use Rattle.zsv_message.specs.zst_record.dnw_codes.DNSClass.{same_class}
use Rattle.zsv_message.specs.zst_record.dnw_codes.declared.dns_class.DNSClass.{DNSClass}
use Rattle.zsv_message.specs.zst_record.dnw_codes.declared.dns_class.DNSClass.TheVariants.{IN}
use Rattle.zsv_message.specs.zst_record.dnw_codes.declared.record_type.RecordType.{RecordType}
use Rattle.zsv_message.specs.zst_record.dnw_codes.declared.record_type.RecordType.TheVariants as kind
use Rattle.zsv_message.specs.zst_record.dnw_codes.RecordType.{same_record_type}
use Rattle.zsv_message.specs.zst_record.dnw_name.DomainName.{DomainName}
use Rattle.zsv_message.specs.zst_record.drd_rdata.Order.{rdata_eq}
use Rattle.zsv_message.specs.zst_record.drd_rdata.Types.{type_of}
use Rattle.zsv_message.specs.zst_record.declared.records.Record.{Record}
use Rattle.zsv_message.specs.zst_record.RecordLaws.{class_equiv}
use Rattle.zsv_message.specs.zst_record.RecordSets.{RRset, is_single, put_record, none_left, set_of, set_with, with_one}
use Rattle.authority_load.specs.zst_zone.zst_handler.Zones.{IsStored}
use Rattle.authority_load.specs.Loaded.{AreDifferent, IsLoadedRecord, IsLoadedSet}
use Rattle.authority_load.specs.Joining.{joined}
use Rattle.authority_transfer.proofs.Keys.{Key, record_of, records_of, set_of_key}
use Rattle.authority_transfer.proofs.Roads.{gather}

-- A set without signatures.
abbrev pub whole : DomainName → DNSClass → RecordType → List Record → RRset
whole name class of_type rs = record { name = name; dns_class = class; record_type = of_type; records = rs; signatures = [] }

abbrev Differs : Record → Record → Type 0
Differs r later = rdata_eq r.rdata later.rdata ≡ false

put_last : (front : List Record) (r : Record) → AllByRecursion (λ f. Differs f r) front → put_record front r ≡ front ++ r ∷ []
put_last [] r all = refl
put_last (f ∷ fs) r all =
    ap (λ (b : Bool). cond b (r ∷ fs) (f ∷ put_record fs r)) all.0 ∙ ap (λ (rs : List Record). f ∷ rs) (put_last fs r all.1)

-- Two records of class IN are of one class.
pub both_in : (a b : DNSClass) → same_class a IN ≡ true → same_class b IN ≡ true → same_class a b ≡ true
both_in a b is xs0 = class_equiv.symm a b ∙ (class_equiv.congr b IN a xs0 ∙ class_equiv.symm IN a ∙ is)

one_more : (name : DomainName) (class : DNSClass) (t : RecordType) (f : Record) (fs : List Record) (r : Record) → same_class r.dns_class class ≡ true
    → same_record_type (type_of r.rdata) kind.ANAME ≡ false → AllByRecursion (λ x. Differs x r) (f ∷ fs)
    → joined (Some (whole name class t (f ∷ fs))) r ≡ whole name class t ((f ∷ fs) ++ r ∷ [])
one_more name class t f fs r same plain differs =
    ap (λ (b : Bool). cond b (set_of r) (set_with (Some (whole name class t (f ∷ fs))) r)) plain
    ∙ ap (λ (b : Bool). with_one (not b) (whole name class t (f ∷ fs)) r) same
    ∙ ap (λ (b : Bool). whole (cond b r.name name) (cond b r.dns_class class) t (put_record (f ∷ fs) r)) differs.0
    ∙ ap (λ (rs : List Record). whole name class t rs) (put_last (f ∷ fs) r differs)

-- Records that come later differ from those before.
abbrev AllDiffer : List Record → List Record → Type 0
AllDiffer front rs = AllByRecursion (λ r. AllByRecursion (λ f. Differs f r) front) rs

all_last : (P : Record → Type 0) (front : List Record) (r : Record) → AllByRecursion P front → P r → AllByRecursion P (front ++ r ∷ [])
all_last P [] r all last = (last, tt)
all_last P (f ∷ fs) r all last = (all.0, all_last P fs r all.1 last)

differ_more : (front : List Record) (r : Record) (rs : List Record) → AllDiffer front rs → AllByRecursion (Differs r) rs → AllDiffer (front ++ r ∷ []) rs
differ_more front r [] all also = tt
differ_more front r (x ∷ xs) all also = (all_last (λ f. Differs f x) front r all.0 also.0, differ_more front r xs all.1 also.1)

append_more : (front : List Record) (r : Record) (rs : List Record) → (front ++ r ∷ []) ++ rs ≡ front ++ r ∷ rs
append_more [] r rs = refl
append_more (f ∷ fs) r rs = ap (λ (xs : List Record). f ∷ xs) (append_more fs r rs)

abbrev IsPlain : DNSClass → Record → Type 0
IsPlain class r = (same_class r.dns_class class ≡ true) × (same_record_type (type_of r.rdata) kind.ANAME ≡ false)

abbrev pub gathered : Option RRset → List Record → Option RRset
gathered o rs = gather {R = Record} {S = RRset} {Q = Key} record_of set_of_key joined records_of o rs

rest_made : (name : DomainName) (class : DNSClass) (t : RecordType) (f : Record) (fs rs : List Record) → AllByRecursion (IsPlain class) rs → AllDiffer (f ∷ fs) rs → AreDifferent rs
    → gathered (Some (whole name class t (f ∷ fs))) rs ≡ Some (whole name class t ((f ∷ fs) ++ rs))
rest_made name class t f fs [] plain differ among = ap (λ (xs : List Record). Some (whole name class t (f ∷ xs))) (sym (append_none fs))
  where
    append_none : (xs : List Record) → xs ++ [] ≡ xs
    append_none [] = refl
    append_none (x ∷ xs) = ap (λ (ys : List Record). x ∷ ys) (append_none xs)
rest_made name class t f fs (r ∷ rs) plain differ among =
    ap (λ (set : RRset). gathered (Some set) rs) (one_more name class t f fs r plain.0.0 plain.0.1 differ.0)
    ∙ rest_made name class t f (fs ++ r ∷ []) rs plain.1 (differ_more (f ∷ fs) r rs differ.1 among.0) among.1
    ∙ ap (λ (xs : List Record). Some (whole name class t xs)) (append_more (f ∷ fs) r rs)

plain_of : (origin : DomainName) (set : RRset) (class : DNSClass) (rs : List Record) → same_class class IN ≡ true → same_record_type set.record_type kind.ANAME ≡ false
    → AllByRecursion (IsLoadedRecord origin set) rs → AllByRecursion (IsPlain class) rs
plain_of origin set class [] in_class plain all = tt
plain_of origin set class (r ∷ rs) in_class plain all = (
  (both_in r.dns_class class all.0.of_class in_class, ap (λ t. same_record_type t kind.ANAME) all.0.of_type ∙ plain),
  plain_of origin set class rs in_class plain all.1,
)

differ_one : (f : Record) (rs : List Record) → AllByRecursion (Differs f) rs → AllDiffer (f ∷ []) rs
differ_one f [] all = tt
differ_one f (r ∷ rs) all = ((all.0, tt), differ_one f rs all.1)

pub first_joined : (r : Record) → joined None r ≡ set_of r
first_joined r = by (same_record_type (type_of r.rdata) kind.ANAME)
  where
    by : (b : Bool) → cond b (set_of r) (set_of r) ≡ set_of r
    by true = refl
    by false = refl

single_aname : (t : RecordType) → same_record_type t kind.ANAME ≡ true → is_single t ≡ true
single_aname t e = by (same_record_type t kind.CNAME)
  where
    by : (b : Bool) → (b || (same_record_type t kind.ANAME || same_record_type t kind.SOA)) ≡ true
    by true = refl
    by false = ap (λ (c : Bool). c || same_record_type t kind.SOA) e

rest_of : (origin : DomainName) (set : RRset) → IsLoadedSet origin set → (b : Bool) → same_record_type set.record_type kind.ANAME ≡ b → (r : Record) (rs : List Record) → set.records ≡ r ∷ rs → AllByRecursion (IsLoadedRecord origin set) (r ∷ rs) → AreDifferent (r ∷ rs) → same_class set.dns_class IN ≡ true
    → gathered (Some (whole set.name set.dns_class set.record_type (r ∷ []))) rs ≡ Some (whole set.name set.dns_class set.record_type (r ∷ rs))
rest_of origin set loaded false plain r rs e all different classed =
    rest_made set.name set.dns_class set.record_type r [] rs (plain_of origin set set.dns_class rs classed plain all.1) (differ_one r rs different.0) different.1
rest_of origin set loaded true is r rs e all different classed =
    let one = loaded.single (single_aname set.record_type is) in
    none_more rs (omega (arith, one, ap length e))
  where
    none_more : (xs : List Record) → length xs ≤ 0 → gathered (Some (whole set.name set.dns_class set.record_type (r ∷ []))) xs ≡ Some (whole set.name set.dns_class set.record_type (r ∷ xs))
    none_more [] h = refl
    none_more (x ∷ xs) h = absurd (omega (arith, h))

pub set_made : (origin : DomainName) (set : RRset) → IsStored set → IsLoadedSet origin set → gathered None set.records ≡ Some set
set_made origin set stored loaded = by set.records refl
  where
    by : (rs : List Record) → set.records ≡ rs → gathered None rs ≡ Some set
    by [] e = absurd (true≢false (ap none_left (sym e) ∙ stored.filled))
    by (r ∷ rs) e =
        let spelled = stored.is.spelled r rs e in
        let all : AllByRecursion (IsLoadedRecord origin set) (r ∷ rs) = subst (AllByRecursion (IsLoadedRecord origin set)) e loaded.records in
        let different : AreDifferent (r ∷ rs) = subst AreDifferent e loaded.different in
        let named : whole set.name set.dns_class set.record_type (r ∷ rs) ≡ set = ap (λ (xs : List Record). whole set.name set.dns_class set.record_type xs) (sym e) ∙ ap (λ (xs : List Record). record set { signatures = xs }) (sym loaded.unsigned) in
        let first : set_of r ≡ whole set.name set.dns_class set.record_type (r ∷ []) =
        ap (λ (n : DomainName). whole n r.dns_class (type_of r.rdata) (r ∷ [])) (sym spelled.0)
        ∙ ap (λ (c : DNSClass). whole set.name c (type_of r.rdata) (r ∷ [])) (sym spelled.1)
        ∙ ap (λ (t : RecordType). whole set.name set.dns_class t (r ∷ [])) all.0.of_type in
        let classed : same_class set.dns_class IN ≡ true = ap (λ (c : DNSClass). same_class c IN) spelled.1 ∙ all.0.of_class in
        ap (λ (one : RRset). gathered (Some one) rs) (first_joined r ∙ first)
        ∙ rest_of origin set loaded (same_record_type set.record_type kind.ANAME) refl r rs e all different classed
        ∙ ap (λ (one : RRset). Some one) named
