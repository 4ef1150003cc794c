-- A zone whose records read back alone, with one more such record, is one still.
use Rattle.std.proofs.Common.{◌≡◌, refl, sym, ◌∙◌, subst}
use Rattle.std.specs.Prelude.{Bool, true, false, not, ◌&&◌, List, [], ◌∷◌, Option, Some, None, cond, find}
use Rattle.std.specs.List.{AllByRecursion}
use Rattle.std.specs.declared.cmp.Ordering.TheVariants.{Less, Equal}
use Rattle.zst_circle.specs.dnw_codes.declared.record_type.RecordType.{RecordType}
use Rattle.zst_circle.specs.dnw_codes.DNSClass.{same_class}
use Rattle.zst_circle.specs.dnw_codes.RecordType.{same_record_type}
use Rattle.zst_circle.specs.dnw_name.DomainName.{DomainName, name_eq}
use Rattle.zst_circle.specs.drd_rdata.Order.{rdata_eq}
use Rattle.zst_circle.specs.drd_rdata.Types.{type_of}
use Rattle.zst_circle.specs.zst_record.Records.{IsServable}
use Rattle.zst_circle.specs.zst_record.RecordSets.{RRset, put_record, set_with}
use Rattle.zst_circle.specs.zst_record.declared.records.Record.{Record}
use Rattle.zst_circle.specs.zst_handler.Zones.{AddsTo, AreInOrder, SetReadsBack, Zone, ZoneReadsBack, rrset_at}
use Rattle.zst_circle.proofs.zst_map_lemmas.ZoneNodes.{is_set_at}
use Rattle.zst_circle.proofs.zst_map_lemmas.ZoneOnce.{find_in, found_first, tied}

-- ---- the sets of a list, each as it is found
find_step : (P : RRset → Type 0) (b : Bool) (x s : RRset) (rest : Option RRset) → cond b (Some x) rest ≡ Some s → (b ≡ true → P x) → (rest ≡ Some s → P s) → P s
find_step P true x s rest e here more = let g : x ≡ s = cc in subst P g (here refl)
find_step P false x s rest e here more = more e

pub found_is : (name : DomainName) (t : RecordType) (xs : List RRset) (s : RRset) → rrset_at xs name t ≡ Some s → is_set_at name t s ≡ true
found_is name t [] s e = let h : ⊥ = cc in absurd h
found_is name t (x ∷ xs) s e = find_step (λ u. is_set_at name t u ≡ true) (is_set_at name t x) x s (find (is_set_at name t) xs) e (λ b. b) (found_is name t xs s)

pub found_of : (P : RRset → Type 0) (name : DomainName) (t : RecordType) (xs : List RRset) (s : RRset) → AllByRecursion P xs → rrset_at xs name t ≡ Some s → P s
found_of P name t [] s all e = let h : ⊥ = cc in absurd h
found_of P name t (x ∷ xs) s all e = find_step P (is_set_at name t x) x s (find (is_set_at name t) xs) e (λ b. all.0) (found_of P name t xs s all.1)

found_behind : (name : DomainName) (t : RecordType) (x s : RRset) (xs : List RRset) → AreInOrder (x ∷ xs) → rrset_at xs name t ≡ Some s → rrset_at (x ∷ xs) name t ≡ Some s
found_behind name t x s xs order e = by (is_set_at name t x) refl
  where
    by : (b : Bool) → is_set_at name t x ≡ b → cond b (Some x) (find (is_set_at name t) xs) ≡ Some s
    by false h = e
    by true h =
        let g : Less ≡ Equal = sym (find_in name t x s xs order.0 e) ∙ tied name t x s h (found_is name t xs s e) in
        cc

pub each_found : (P : RRset → Type 0) (xs : List RRset) → AreInOrder xs → ((name : DomainName) (t : RecordType) (s : RRset) → rrset_at xs name t ≡ Some s → P s) → AllByRecursion P xs
each_found P [] order all = tt
each_found P (x ∷ xs) order all = (
  all x.name x.record_type x (found_first x xs),
  each_found P xs order.1 (λ name t s e. all name t s (found_behind name t x s xs order e)),
)

-- ---- with a record
put_step : (b : Bool) (s r : Record) (ss rest : List Record) → IsServable r → IsServable s → AllByRecursion IsServable ss → AllByRecursion IsServable rest
    → AllByRecursion IsServable (cond b (r ∷ ss) (s ∷ rest))
put_step true s r ss rest new first all more = (new, all)
put_step false s r ss rest new first all more = (first, more)

put_reads_back : (rs : List Record) (r : Record) → AllByRecursion IsServable rs → IsServable r → AllByRecursion IsServable (put_record rs r)
put_reads_back [] r all new = (new, tt)
put_reads_back (s ∷ ss) r all new = put_step (rdata_eq s.rdata r.rdata) s r ss (put_record ss r) new all.0 all.1 (put_reads_back ss r all.1 new)

alone_or_put : (same : Bool) (rs : List Record) (r : Record) → AllByRecursion IsServable rs → IsServable r → AllByRecursion IsServable (cond (not same) (r ∷ []) (put_record rs r))
alone_or_put true rs r all new = put_reads_back rs r all new
alone_or_put false rs r all new = (new, tt)

with_reads_back : (o : Option RRset) (r : Record) → ((s : RRset) → o ≡ Some s → SetReadsBack s) → IsServable r → SetReadsBack (set_with o r)
with_reads_back None r old new = record { records = (new, tt); signatures = tt }
with_reads_back (Some s) r old new = record {
  records = alone_or_put (same_class r.dns_class s.dns_class) s.records r (old s refl).records new;
  signatures = tt;
}

with_step : (b : Bool) (o : Option RRset) (r : Record) (s : RRset) → cond b (Some (set_with o r)) o ≡ Some s → ((u : RRset) → o ≡ Some u → SetReadsBack u) → IsServable r → SetReadsBack s
with_step true o r s e old new = let g : set_with o r ≡ s = cc in subst SetReadsBack g (with_reads_back o r old new)
with_step false o r s e old new = old s e

pub adds_reads_back : (old new : Zone) (r : Record) → AddsTo old r new → ZoneReadsBack old → IsServable r → ZoneReadsBack new
adds_reads_back old new r adds back alone =
    each_found SetReadsBack new.sets adds.ordered
    (λ name t s e. with_step (name_eq name r.name && same_record_type (type_of r.rdata) t) (rrset_at old.sets name t) r s (sym (adds.adds name t) ∙ e)
    (λ u there. found_of SetReadsBack name t old.sets u back there) alone)
