-- Names and types, as records and sets have them.
use Rattle.std.proofs.Common.{◌≡◌, ◌∙◌, refl, sym, ap, ℕ}
use Rattle.std.specs.Prelude.{Bool, true, ◌&&◌, List, [], ◌∷◌, Option, Some, None, find, ◌==◌}
use Rattle.std.specs.List.{AllByRecursion}
use Rattle.std.specs.declared.cmp.Ordering.TheVariants.{Less, Equal}
use Rattle.std.proofs.lemmas.Bool.{and_parts, eqb-true}
use Rattle.zsv_message.specs.zst_record.dnw_codes.declared.record_type.RecordType.{RecordType}
use Rattle.zsv_message.specs.zst_record.dnw_codes.RecordType.{record_type_number, same_record_type}
use Rattle.zsv_message.specs.zst_record.dnw_name.DomainName.{DomainName, name_eq}
use Rattle.zsv_message.specs.zst_record.drd_rdata.Types.{type_of}
use Rattle.zsv_message.specs.zst_record.declared.records.Record.{Record}
use Rattle.zsv_message.specs.zst_record.RecordLaws.{name_eq_equiv}
use Rattle.zsv_message.specs.zst_record.RecordSets.{IsRecordOf, RRset}
use Rattle.authority_load.specs.zst_zone.zst_handler.Zones.{AreInOrder, AreStored, IsStored, rrset_at, set_cmp}
use Rattle.authority_transfer.proofs.Orders.{find_in, tied}
use Rattle.authority_load.proofs.ReadBack.{found_is}
use Rattle.authority_load.specs.Joining.{is_of, joined}
use Rattle.authority_transfer.proofs.Roads.{Agree, AgreeSets, Distinct, Owns}

abbrev pub Key : Type 0
Key = DomainName × RecordType

abbrev pub records_of : RRset → List Record
records_of set = set.records

abbrev pub record_of : Key → Record → Bool
record_of key r = is_of key.0 key.1 r

abbrev pub set_of_key : Key → RRset → Bool
set_of_key key set = name_eq key.0 set.name && same_record_type set.record_type key.1

-- Equal names have the same equal names.
pub alike_right : (a b name : DomainName) → name_eq a b ≡ true → name_eq name a ≡ name_eq name b
alike_right a b name e = name_eq_equiv.symm name a ∙ (name_eq_equiv.congr a b name e ∙ name_eq_equiv.symm b name)

pub same_left : (a b t : RecordType) → same_record_type a b ≡ true → same_record_type a t ≡ same_record_type b t
same_left a b t e = ap (λ (n : ℕ). n == record_type_number t) (eqb-true (record_type_number a) (record_type_number b) e)

pub same_right : (a b t : RecordType) → same_record_type a b ≡ true → same_record_type t a ≡ same_record_type t b
same_right a b t e = ap (λ (n : ℕ). record_type_number t == n) (eqb-true (record_type_number a) (record_type_number b) e)

-- ---- the records of a set are of its name and type
record_alike : (set : RRset) (r : Record) → IsRecordOf set r → (key : Key) → record_of key r ≡ set_of_key key set
record_alike set r of key =
    ap (λ (b : Bool). b && same_record_type (type_of r.rdata) key.1) (alike_right r.name set.name key.0 of.at_owner)
    ∙ ap (λ (b : Bool). name_eq key.0 set.name && b) (same_left (type_of r.rdata) set.record_type key.1 of.of_type)

records_alike : (set : RRset) (rs : List Record) → AllByRecursion (IsRecordOf set) rs → (key : Key) → AllByRecursion (λ r. record_of key r ≡ set_of_key key set) rs
records_alike set [] all key = tt
records_alike set (r ∷ rs) all key = (record_alike set r all.0 key, records_alike set rs all.1 key)

abbrev pub OwnsAll : RRset → Type 0
OwnsAll set = Owns {R = Record} {S = RRset} {Q = Key} record_of set_of_key joined records_of set

pub owns : (set : RRset) → IsStored set → OwnsAll set
owns set stored = records_alike set set.records stored.is.records

pub all_own : (sets : List RRset) → AreStored sets → AllByRecursion OwnsAll sets
all_own [] all = tt
all_own (set ∷ sets) all = (owns set all.0, all_own sets all.1)

-- ---- sets in order are of different names and types
pub alone : (key : Key) (set : RRset) (sets : List RRset) → AllByRecursion (λ later. set_cmp set later ≡ Less) sets → set_of_key key set ≡ true → find (set_of_key key) sets ≡ None
alone key set sets behind here = by (rrset_at sets key.0 key.1) refl
  where
    by : (o : Option RRset) → rrset_at sets key.0 key.1 ≡ o → o ≡ None
    by None e = refl
    by (Some x) e =
        let h : Less ≡ Equal = sym (find_in key.0 key.1 set x sets behind e) ∙ tied key.0 key.1 set x here (found_is key.0 key.1 sets x e) in
        cc

abbrev pub AreDistinct : List RRset → Type 0
AreDistinct sets = Distinct {R = Record} {S = RRset} {Q = Key} record_of set_of_key joined records_of sets

pub distinct : (sets : List RRset) → AreInOrder sets → AreDistinct sets
distinct [] order = tt
distinct (set ∷ sets) order = ((λ key here. alone key set sets order.0 here), distinct sets order.1)

-- ---- names and types of one record, or of one set, are the same
same_key : (p q : Key) (name : DomainName) (t : RecordType) → name_eq p.0 name ≡ true → name_eq q.0 name ≡ true → same_record_type t p.1 ≡ true → same_record_type t q.1 ≡ true
    → ((other : DomainName) → name_eq p.0 other ≡ name_eq q.0 other) × ((u : RecordType) → same_record_type u p.1 ≡ same_record_type u q.1)
same_key p q name t first second kind other = (
  (λ x. name_eq_equiv.congr p.0 name x first ∙ sym (name_eq_equiv.congr q.0 name x second)),
  (λ u. same_right p.1 q.1 u (turned p.1 q.1 t kind other)),
)
  where
    turned : (a b c : RecordType) → same_record_type c a ≡ true → same_record_type c b ≡ true → same_record_type a b ≡ true
    turned a b c e f = sym (same_left c a b e) ∙ f

pub agree : Agree {R = Record} {S = RRset} {Q = Key} record_of set_of_key joined records_of
agree p q r at_p at_q =
    let a = and_parts (name_eq p.0 r.name) (same_record_type (type_of r.rdata) p.1) at_p in
    let b = and_parts (name_eq q.0 r.name) (same_record_type (type_of r.rdata) q.1) at_q in
    let same = same_key p q r.name (type_of r.rdata) a.0 b.0 a.1 b.1 in (
      (λ x. ap (λ (c : Bool). c && same_record_type (type_of x.rdata) p.1) (same.0 x.name) ∙ ap (λ (c : Bool). name_eq q.0 x.name && c) (same.1 (type_of x.rdata))),
      (λ s. ap (λ (c : Bool). c && same_record_type s.record_type p.1) (same.0 s.name) ∙ ap (λ (c : Bool). name_eq q.0 s.name && c) (same.1 s.record_type)),
    )

pub agree_sets : AgreeSets {R = Record} {S = RRset} {Q = Key} record_of set_of_key joined records_of
agree_sets p q s at_p at_q =
    let a = and_parts (name_eq p.0 s.name) (same_record_type s.record_type p.1) at_p in
    let b = and_parts (name_eq q.0 s.name) (same_record_type s.record_type q.1) at_q in
    let same = same_key p q s.name s.record_type a.0 b.0 a.1 b.1 in
    λ x. ap (λ (c : Bool). c && same_record_type (type_of x.rdata) p.1) (same.0 x.name) ∙ ap (λ (c : Bool). name_eq q.0 x.name && c) (same.1 (type_of x.rdata))
