-- A stored set that is edited where it is is one still.
use Rattle.std.proofs.Common.{◌≡◌, ◌<◌, refl, ap, sym, subst, ◌∙◌, arith, length}
use Rattle.std.specs.Prelude.{true, false, List, [], ◌∷◌}
use Rattle.std.specs.List.{AllByRecursion}
use Rattle.std.proofs.lemmas.Bool.{true≢false}
use Rattle.zst_circle.specs.dnw_codes.DNSClass.{same_class}
use Rattle.zst_circle.specs.dnw_codes.RecordType.{same_record_type}
use Rattle.zst_circle.specs.dnw_codes.declared.dns_class.DNSClass.{DNSClass}
use Rattle.zst_circle.specs.dnw_codes.declared.record_type.RecordType.{RecordType}
use Rattle.zst_circle.specs.dnw_name.DomainName.{DomainName, name_eq}
use Rattle.zst_circle.specs.drd_rdata.Types.{type_of}
use Rattle.zst_circle.specs.drd_rdata.declared.rdata.RData.{RData}
use Rattle.zst_circle.specs.drd_rdata.declared.rdata.RData.TheVariants as rdata
use Rattle.zst_circle.specs.zst_record.Drafts.{drafted}
use Rattle.zst_circle.specs.zst_record.RecordSets.{IsRRset, IsRecordOf, RRset, none_left, raised_data, raised_first, raised_set}
use Rattle.zst_circle.specs.zst_record.declared.records.Record.{Record}
use Rattle.zst_circle.specs.zst_handler.Zones.{IsStored}
use Rattle.zst_circle.specs.zst_map.Edits.{CanEdit, edited}
use Rattle.zst_circle.specs.zst_map.declared.edit.Edit.{Edit}
use Rattle.zst_circle.specs.zst_map.declared.edit.Edit.TheVariants as edits

some_left : (rs : List Record) → 0 < length rs → none_left rs ≡ false
some_left [] some = absurd (omega (arith, some))
some_left (r ∷ rs) some = refl

same_type : (v : RData) → type_of (raised_data v) ≡ type_of v
same_type (rdata.SOA soa) = refl
same_type v = refl

-- Records of a set are records of one with its owner, class and type.
same_records : (set to : RRset) (rs : List Record) → to.name ≡ set.name → to.dns_class ≡ set.dns_class → to.record_type ≡ set.record_type → AllByRecursion (IsRecordOf set) rs → AllByRecursion (IsRecordOf to) rs
same_records set to [] name class kind all = tt
same_records set to (r ∷ rs) name class kind all = (
  record {
    at_owner = ap (λ (n : DomainName). name_eq r.name n) name ∙ all.0.at_owner;
    of_class = ap (λ (c : DNSClass). same_class r.dns_class c) class ∙ all.0.of_class;
    of_type = ap (λ (t : RecordType). same_record_type (type_of r.rdata) t) kind ∙ all.0.of_type;
  },
  same_records set to rs name class kind all.1,
)

raised_stored : (set : RRset) → IsStored set → IsStored (raised_set set)
raised_stored set stored = by set.records refl
  where
    by : (rs : List Record) → set.records ≡ rs → IsStored (raised_set set)
    by [] e = absurd (true≢false (ap none_left (sym e) ∙ stored.filled))
    by (r ∷ rs) e =
        let spelled = stored.is.spelled r rs e in
        let all = subst (AllByRecursion (IsRecordOf set)) e stored.is.records in
        let first = record r { rdata = raised_data r.rdata } in
        let to : RRset = record set { records = first ∷ rs; signatures = [] } in
        let is : IsStored to = record {
          filled = refl;
          is = record {
            records = (record { at_owner = all.0.at_owner; of_class = all.0.of_class; of_type = rw (same_type r.rdata) all.0.of_type }, same_records set to rs refl refl refl all.1);
            signatures = tt;
            spelled = λ x xs same. let named : first ≡ x = cc in (spelled.0 ∙ ap (λ (y : Record). y.name) named, spelled.1 ∙ ap (λ (y : Record). y.dns_class) named);
          };
        } in
        subst (λ (xs : List Record). IsStored (record set { records = raised_first xs; signatures = [] })) (sym e) is

pub edited_stored : (edit : Edit) (set : RRset) → CanEdit edit set → IsStored set → IsStored (edited edit set)
edited_stored (edits.Settle t draft) set can stored = record { filled = some_left (drafted set.records draft.places.items draft.items.items) can.1.filled; is = can.1.is }
edited_stored edits.RaiseSerial set can stored = raised_stored set stored
edited_stored (edits.Sign signatures) set can stored = record {
  filled = stored.filled;
  is = record { records = same_records set (record set { signatures = signatures.items }) set.records refl refl refl stored.is.records; signatures = can; spelled = stored.is.spelled };
}
