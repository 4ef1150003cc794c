-- A set whose first record has another serial number is kept as before.
use Rattle.std.proofs.Common.{◌≡◌, ◌∙◌, ap, refl, arith}
use Rattle.std.specs.Prelude.{Bool, true, false, List, [], ◌∷◌}
use Rattle.std.specs.List.{AllByRecursion}
use Rattle.drd_rdata.specs.Types.{type_of}
use Rattle.drd_rdata.specs.declared.rdata.RData.{RData}
use Rattle.drd_rdata.specs.declared.rdata.RData.TheVariants as rdata
use Rattle.drd_rdata.specs.dnw_codes.DNSClass.{same_class}
use Rattle.drd_rdata.specs.dnw_codes.RecordType.{same_record_type}
use Rattle.drd_rdata.specs.dnw_codes.declared.dns_class.DNSClass.{DNSClass}
use Rattle.drd_rdata.specs.dnw_codes.declared.record_type.RecordType.{RecordType}
use Rattle.drd_rdata.specs.dnw_name.DomainName.{DomainName, name_eq}
use Rattle.zst_record.specs.RecordSets.{IsHeld, IsRecordOf, RRset, held_set, raised_data, raised_first, raised_set}
use Rattle.zst_record.specs.declared.records.Record.{Record}

pub raised_type : (v : RData) → type_of (raised_data v) ≡ type_of v
raised_type (rdata.SOA soa) = refl
raised_type v = refl

pub view_raised : (t : RecordType) (b : Bool) (items rrsigs : List Record) → held_set t b (raised_first items) [] ≡ raised_set (held_set t b items rrsigs)
view_raised t true [] rrsigs = refl
view_raised t false [] rrsigs = refl
view_raised t true (r ∷ rs) rrsigs = refl
view_raised t false (r ∷ rs) rrsigs = refl

-- Records of a set are records of one with its owner, class and type.
same_records : (set to : RRset) (rs : List Record) → to.name ≡ set.name → to.dns_class ≡ set.dns_class → to.record_type ≡ set.record_type → AllByRecursion (IsRecordOf set) rs → AllByRecursion (IsRecordOf to) rs
same_records set to [] name class kind all = tt
same_records set to (r ∷ rs) name class kind all = (
  record {
    at_owner = ap (λ (n : DomainName). name_eq r.name n) name ∙ all.0.at_owner;
    of_class = ap (λ (c : DNSClass). same_class r.dns_class c) class ∙ all.0.of_class;
    of_type = ap (λ (t : RecordType). same_record_type (type_of r.rdata) t) kind ∙ all.0.of_type;
  },
  same_records set to rs name class kind all.1,
)

pub held_raised : (t : RecordType) (b : Bool) (items rrsigs : List Record) → IsHeld t b items rrsigs → IsHeld t b (raised_first items) []
held_raised t b [] rrsigs held = absurd (omega (arith, held.filled))
held_raised t true (r ∷ rs) rrsigs held = record {
  filled = omega arith;
  is = record { records = tt; signatures = tt; spelled = λ first later none. absurd (cc none) };
}
held_raised t false (r ∷ rs) rrsigs held = record {
  filled = omega arith;
  is = record {
    records = (
      record {
        at_owner = held.is.records.0.at_owner;
        of_class = held.is.records.0.of_class;
        of_type = ap (λ (u : RecordType). same_record_type u t) (raised_type r.rdata) ∙ held.is.records.0.of_type;
      },
      same_records (held_set t false (r ∷ rs) rrsigs) (held_set t false (raised_first (r ∷ rs)) []) rs refl refl refl held.is.records.1,
    );
    signatures = tt;
    spelled = λ first later same. let named : record r { rdata = raised_data r.rdata } ≡ first = cc in rw (← named) (refl, refl);
  };
}
