-- Sets that move are stored as before.
use Rattle.std.proofs.Common.{◌≡◌, ◌∙◌, refl, ap, sym, subst}
use Rattle.std.specs.Prelude.{Bool, true, false, not, ◌&&◌, List, [], ◌∷◌, Option, Some, None, IfSome, cond, is_some, option_map}
use Rattle.std.specs.List.{AllByRecursion}
use Rattle.std.proofs.lemmas.Bool.{and_parts, true≢false}
use Rattle.zst_absence.specs.drd_rdata.Types.{type_of}
use Rattle.zst_absence.specs.drd_rdata.declared.rdata.RData.{RData}
use Rattle.zst_absence.specs.drd_rdata.declared.rdata.RData.TheVariants as rdata
use Rattle.zst_absence.specs.dnw_codes.declared.record_type.RecordType.{RecordType}
use Rattle.zst_absence.specs.dnw_codes.DNSClass.{same_class}
use Rattle.zst_absence.specs.dnw_codes.RecordType.{same_record_type}
use Rattle.zst_absence.specs.dnw_name.DomainName.{DomainName, name_eq}
use Rattle.zst_absence.specs.zst_denial.Kept.{is_circle_type}
use Rattle.zst_absence.specs.zst_handler.Zones.{AreStored, IsStored, rrset_at}
use Rattle.zst_absence.specs.zst_record.RecordSets.{IsRecordOf, RRset, is_signature_of, none_left, raised_data, raised_first, raised_set}
use Rattle.zst_absence.specs.zst_record.declared.records.Record.{Record}
use Rattle.zst_absence.proofs.zst_map_lemmas.Replacing.{both_same}
use Rattle.zst_circle.specs.Moves.{is_placeholder_of, moved, placeholder_of, resigned}
use Rattle.zst_circle.specs.declared.moves.Placeholder.{Placeholder}
use Rattle.zst_circle.proofs.Moving.{find_all}
use Rattle.zst_circle.proofs.Settled.{circle_stays}

raised_type : (v : RData) → type_of (raised_data v) ≡ type_of v
raised_type (rdata.SOA soa) = refl
raised_type v = refl

-- Records of a set are those of one with the same owner, class and type.
records_of : (set to : RRset) (rs : List Record) → to.name ≡ set.name → to.dns_class ≡ set.dns_class → to.record_type ≡ set.record_type → AllByRecursion (IsRecordOf set) rs → AllByRecursion (IsRecordOf to) rs
records_of set to [] name class kind all = tt
records_of set to (r ∷ rs) name class kind all = (
  record {
    at_owner = ap (λ (n : DomainName). name_eq r.name n) name ∙ all.0.at_owner;
    of_class = ap (λ c. same_class r.dns_class c) class ∙ all.0.of_class;
    of_type = ap (λ (t : RecordType). same_record_type (type_of r.rdata) t) kind ∙ all.0.of_type;
  },
  records_of set to rs name class kind all.1,
)

signed_stored : (set : RRset) (signatures : List Record) → IsStored set → AllByRecursion (λ r. is_signature_of set r ≡ true) signatures → IsStored (record set { signatures = signatures })
signed_stored set signatures stored fit = record {
  filled = stored.filled;
  is = record {
    records = records_of set (record set { signatures = signatures }) set.records refl refl refl stored.is.records;
    signatures = fit;
    spelled = stored.is.spelled;
  };
}

raised_stored : (set : RRset) → IsStored set → IsStored (raised_set set)
raised_stored set stored = by set.records refl
  where
    by : (rs : List Record) → set.records ≡ rs → IsStored (raised_set set)
    by [] e = absurd (true≢false (sym (ap none_left e) ∙ stored.filled))
    by (r ∷ rs) e =
        let spelled = stored.is.spelled r rs e in
        let all : AllByRecursion (IsRecordOf set) (r ∷ rs) = subst (AllByRecursion (IsRecordOf set)) e stored.is.records in
        let first : IsRecordOf (raised_set set) (record r { rdata = raised_data r.rdata }) = record {
          at_owner = all.0.at_owner;
          of_class = all.0.of_class;
          of_type = ap (λ (t : RecordType). same_record_type t set.record_type) (raised_type r.rdata) ∙ all.0.of_type;
        } in
        record {
          filled = ap (λ (l : List Record). none_left (raised_first l)) e;
          is = record {
            records = subst (λ (l : List Record). AllByRecursion (IsRecordOf (raised_set set)) (raised_first l)) (sym e) (first, records_of set (raised_set set) rs refl refl refl all.1);
            signatures = tt;
            spelled = λ one later same.
                let g : record r { rdata = raised_data r.rdata } ∷ rs ≡ one ∷ later = sym (ap raised_first e) ∙ same in
                let h : record r { rdata = raised_data r.rdata } ≡ one = cc in
                (spelled.0 ∙ ap (λ (x : Record). x.name) h, spelled.1 ∙ ap (λ (x : Record). x.dns_class) h);
          };
        }

pub resigned_stored : (p : Placeholder) (set : RRset) → IsStored set → AllByRecursion (λ r. is_signature_of set r ≡ true) p.signatures.items → IsStored (resigned p set)
resigned_stored p set stored fit = by p.rises
  where
    by : (b : Bool) → IsStored (record (cond b (raised_set set) set) { signatures = p.signatures.items })
    by true = signed_stored (raised_set set) p.signatures.items (raised_stored set stored) fit
    by false = signed_stored set p.signatures.items stored fit

-- What is stored when all have moved.
pub all_stored : (old new final : List RRset) (list : List Placeholder) → (fits : Placeholder → RRset → Type 0)
    → ((p : Placeholder) (set : RRset) → fits p set → AllByRecursion (λ r. is_signature_of set r ≡ true) p.signatures.items)
    → ((name : DomainName) (t : RecordType) → rrset_at final name t ≡ moved (placeholder_of list name t) (rrset_at old name t) (rrset_at new name t))
    → ((name : DomainName) (t : RecordType) → is_some (placeholder_of list name t) ≡ (is_some (rrset_at old name t) && not (is_circle_type t)))
    → ((name : DomainName) (t : RecordType) → is_circle_type t ≡ false → is_some (rrset_at new name t) ≡ is_some (rrset_at old name t))
    → AllByRecursion (λ p. (set : RRset) → rrset_at old p.key p.record_type ≡ Some set → fits p set) list
    → ((name : DomainName) (t : RecordType) → is_circle_type t ≡ true → IfSome (rrset_at new name t) IsStored)
    → AreStored old → (name : DomainName) (t : RecordType) → IfSome (rrset_at final name t) IsStored
all_stored old new final list fits fit moves listed there each made stored name t = by (is_circle_type t) refl (placeholder_of list name t) refl (rrset_at old name t) refl
  where
    unplaced : (o : Option RRset) → is_some o ≡ false → IfSome o IsStored
    unplaced None e = tt
    unplaced (Some set) e = absurd (true≢false e)

    by : (b : Bool) → is_circle_type t ≡ b → (p : Option Placeholder) → placeholder_of list name t ≡ p → (o : Option RRset) → rrset_at old name t ≡ o → IfSome (rrset_at final name t) IsStored
    by true circle p found o at = subst (λ (x : Option RRset). IfSome x IsStored) (sym (circle_stays old new final list moves listed there name t circle)) (made name t circle)
    by false other None found o at =
        unplaced (rrset_at final name t)
        (ap is_some (moves name t ∙ ap (λ (x : Option Placeholder). moved x (rrset_at old name t) (rrset_at new name t)) found) ∙ there name t other ∙ none)
      where
        none : is_some (rrset_at old name t) ≡ false
        none = off (is_some (rrset_at old name t)) (is_circle_type t) other (sym (listed name t) ∙ ap is_some found)
          where
            off : (a c : Bool) → c ≡ false → (a && not c) ≡ false → a ≡ false
            off false c e f = refl
            off true false e f = absurd (true≢false f)
            off true true e f = absurd (true≢false e)
    by false other (Some p) found None at =
        subst (λ (x : Option RRset). IfSome x IsStored)
        (sym (moves name t ∙ ap (λ (x : Option Placeholder). moved x (rrset_at old name t) (rrset_at new name t)) found ∙ ap (option_map (resigned p)) at)) tt
    by false other (Some p) found (Some set) at =
        let it = find_all (λ q. (s : RRset) → rrset_at old q.key q.record_type ≡ Some s → fits q s) (is_placeholder_of name t) list p each found in
        let parts = and_parts (name_eq name p.key) (same_record_type p.record_type t) it.1 in
        let held = (find_all IsStored (λ (s : RRset). name_eq name s.name && same_record_type s.record_type t) old set stored at).0 in
        subst (λ (x : Option RRset). IfSome x IsStored)
        (sym (moves name t ∙ ap (λ (x : Option Placeholder). moved x (rrset_at old name t) (rrset_at new name t)) found ∙ ap (option_map (resigned p)) at))
        (resigned_stored p set held (fit p set (it.0 set (both_same old name p.key p.record_type t parts.0 parts.1 ∙ at))))
