-- Sets of one owner, each with its records, and what a record of an update leaves of them.
use Rattle.std.proofs.Common.{◌≡◌, refl, ap, sym, ◌∙◌, subst}
use Rattle.std.specs.Prelude.{Bool, true, false, not, List, [], ◌∷◌, ◌++◌, Option, Some, None, cond, nat_lt}
use Rattle.std.specs.List.{AllByRecursion, flat_map}
use Rattle.std.proofs.lemmas.Bool.{and_parts, eq-eqb, eqb-true, true≢false}
use Rattle.zst_map.specs.dnw_codes.declared.dns_class.DNSClass.{DNSClass}
use Rattle.zst_map.specs.dnw_codes.declared.dns_class.DNSClass.TheVariants as classes
use Rattle.zst_map.specs.dnw_codes.declared.record_type.RecordType.{RecordType}
use Rattle.zst_map.specs.dnw_codes.RecordType.{record_type_number, same_record_type}
use Rattle.zst_map.specs.dnw_name.DomainName.{DomainName, name_eq}
use Rattle.zst_map.specs.drd_rdata.Order.{rdata_eq}
use Rattle.zst_map.specs.drd_rdata.Types.{type_of}
use Rattle.zst_map.specs.zst_handler.Updates.{is_kept_out, joins, set_of_type, upserted, with_set}
use Rattle.zst_map.specs.zst_handler.Zones.{IsStored}
use Rattle.zst_map.specs.zst_record.RecordSets.{RRset, first_of_put, is_single, left_of, none_left, removed, with_one, without}
use Rattle.zst_map.specs.zst_record.declared.records.Record.{Record}
use Rattle.zst_map.proofs.PutRecords.{IsOf, of_set, to_set}
use Rattle.zst_zone.proofs.Stored.{AreThere, upserted_stored}
use Rattle.zst_request.specs.Applied.{is_added, is_deleted, is_taken_from, left_by, taken_from}
use Rattle.zst_draft.specs.ZoneDrafts.{AreOwned}
use Rattle.zst_draft.proofs.DraftedTypes.{found_passes}
use Rattle.zst_draft.proofs.Names.{chained, flipped}
use Rattle.zst_draft.proofs.OwnerSets.{all_kept}
use Rattle.zst_draft.proofs.TakenRecords.{all_without, respelled}

abbrev pub IsOwned : DomainName → RRset → Type 0
IsOwned name set = IsStored set × (name_eq name set.name ≡ true)

pub found_owned : (P : RRset → Type 0) (t : RecordType) (sets : List RRset) (s : RRset) → AllByRecursion P sets → set_of_type t sets ≡ Some s → P s
found_owned P t [] s all e = let h : ⊥ = cc in absurd h
found_owned P t (x ∷ sets) s all e = by (same_record_type x.record_type t) e (found_owned P t sets s all.1)
  where
    by : (b : Bool) → cond b (Some x) (set_of_type t sets) ≡ Some s → (set_of_type t sets ≡ Some s → P s) → P s
    by true e more = let g : x ≡ s = cc in subst P g all.0
    by false e more = more e

-- ---- class IN
put_owned : (name : DomainName) (sets : List RRset) (new : RRset) → AllByRecursion (IsOwned name) sets → IsOwned name new → AllByRecursion (IsOwned name) (with_set sets new)
put_owned name [] new all is = (is, tt)
put_owned name (s ∷ sets) new all is =
    by (nat_lt (record_type_number s.record_type) (record_type_number new.record_type)) (same_record_type s.record_type new.record_type) (put_owned name sets new all.1 is)
  where
    by : (b c : Bool) → AllByRecursion (IsOwned name) (with_set sets new) → AllByRecursion (IsOwned name) (cond b (s ∷ with_set sets new) (cond c (new ∷ sets) (new ∷ s ∷ sets)))
    by true c more = (all.0, more)
    by false true more = (is, all.1)
    by false false more = (is, all)

first_named : (name new old : DomainName) (rs : List Record) (r : Record) → name_eq name new ≡ true → name_eq name old ≡ true → name_eq name (first_of_put new old rs r) ≡ true
first_named name new old [] r first second = first
first_named name new old (s ∷ rs) r first second = by (rdata_eq s.rdata r.rdata)
  where
    by : (b : Bool) → name_eq name (cond b new old) ≡ true
    by true = first
    by false = second

upserted_named : (name : DomainName) (o : Option RRset) (r : Record) → name_eq name r.name ≡ true → ((s : RRset) → o ≡ Some s → name_eq name s.name ≡ true) → name_eq name (upserted o r).name ≡ true
upserted_named name None r own of = own
upserted_named name (Some s) r own of = by (is_single s.record_type)
  where
    by : (b : Bool) → name_eq name (with_one b s r).name ≡ true
    by true = own
    by false = first_named name r.name s.name s.records r own (of s refl)

there_in : (name : DomainName) (sets : List RRset) (r : Record) → AreOwned name sets → name_eq r.name name ≡ true → AreThere r (set_of_type (type_of r.rdata) sets)
there_in name sets r all own set e =
    let is = found_owned (IsOwned name) (type_of r.rdata) sets set all e in
    record {
      stored = is.0;
      owner = chained r.name name set.name own is.1;
      kind = turned (found_passes (λ s. same_record_type s.record_type (type_of r.rdata)) sets set e);
    }
  where
    turned : same_record_type set.record_type (type_of r.rdata) ≡ true → same_record_type (type_of r.rdata) set.record_type ≡ true
    turned is = eq-eqb (record_type_number (type_of r.rdata)) (record_type_number set.record_type) (sym (eqb-true (record_type_number set.record_type) (record_type_number (type_of r.rdata)) is))

added_owned : (name : DomainName) (sets : List RRset) (r : Record) → AreOwned name sets → name_eq r.name name ≡ true → AreOwned name (left_by false sets r classes.IN)
added_owned name sets r all own = by (is_added sets r) refl
  where
    o : Option RRset
    o = set_of_type (type_of r.rdata) sets

    by : (b : Bool) → is_added sets r ≡ b → AreOwned name (cond b (with_set sets (upserted o r)) sets)
    by true added =
        put_owned name sets (upserted o r) all (
          upserted_stored o r (and_parts (not (is_kept_out sets (type_of r.rdata))) (joins o r) added).1 (there_in name sets r all own),
          upserted_named name o r (flipped r.name name own) (λ s e. (found_owned (IsOwned name) (type_of r.rdata) sets s all e).1),
        )
    by false added = all

-- ---- class NONE
left_stored : (set : RRset) (rs : List Record) → none_left rs ≡ false → AllByRecursion (IsOf set.name set.dns_class set.record_type) rs
    → IsStored (left_of set rs) × (name_eq set.name (left_of set rs).name ≡ true)
left_stored set [] some all = absurd (true≢false some)
left_stored set (r ∷ rs) some all = (
  record {
    filled = refl;
    is = record {
      records = to_set (left_of set (r ∷ rs)) (r ∷ rs) (respelled set.name set.dns_class set.record_type (r ∷ rs) all);
      signatures = tt;
      spelled = λ first later e. let same : r ≡ first = cc in (ap (λ (x : Record). x.name) same, ap (λ (x : Record). x.dns_class) same);
    };
  },
  flipped r.name set.name all.0.0,
)

left_none : (set : RRset) (rs : List Record) → none_left (left_of set rs).records ≡ none_left rs
left_none set [] = refl
left_none set (r ∷ rs) = refl

removed_owned : (name : DomainName) (set : RRset) (r : Record) → IsOwned name set → none_left (removed set r).records ≡ false → IsOwned name (removed set r)
removed_owned name set r is some =
    let rest = without set.records r.rdata in
    let left = left_stored set rest (sym (left_none set rest) ∙ some) (all_without (IsOf set.name set.dns_class set.record_type) set.records r.rdata (of_set set set.records is.0.is.records)) in
    (left.0, chained name set.name (removed set r).name is.1 left.1)

taken_owned : (name : DomainName) (sets : List RRset) (r : Record) → AllByRecursion (IsOwned name) sets → AllByRecursion (IsOwned name) (flat_map (taken_from r) sets)
taken_owned name [] r all = tt
taken_owned name (s ∷ sets) r all = by (is_taken_from r s) (none_left (removed s r).records) refl (taken_owned name sets r all.1)
  where
    by : (b c : Bool) → none_left (removed s r).records ≡ c → AllByRecursion (IsOwned name) (flat_map (taken_from r) sets)
        → AllByRecursion (IsOwned name) (cond b (cond c [] (removed s r ∷ [])) (s ∷ []) ++ flat_map (taken_from r) sets)
    by true true e more = more
    by true false e more = (removed_owned name s r all.0 e, more)
    by false c e more = (all.0, more)

-- ---- by class
pub left_owned : (name : DomainName) (at_apex : Bool) (sets : List RRset) (r : Record) (class : DNSClass) → AreOwned name sets → name_eq r.name name ≡ true → AreOwned name (left_by at_apex sets r class)
left_owned name at_apex sets r classes.IN all own = added_owned name sets r all own
left_owned name at_apex sets r classes.ANY all own = all_kept (IsOwned name) (λ set. not (is_deleted at_apex r set)) sets all
left_owned name at_apex sets r classes.NONE all own = taken_owned name sets r all
left_owned name at_apex sets r other all own = all
