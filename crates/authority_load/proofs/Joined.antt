-- What a joined record leaves may be served.
use Rattle.std.proofs.Common.{◌≡◌, ◌∙◌, refl, sym, subst}
use Rattle.std.specs.Prelude.{Bool, true, false, not, [], ◌∷◌, List, Option, Some, None, cond}
use Rattle.std.specs.List.{AllByRecursion}
use Rattle.zst_zone.specs.dnw_codes.declared.record_type.RecordType.TheVariants as kind
use Rattle.zst_zone.specs.dnw_codes.DNSClass.{same_class}
use Rattle.zst_zone.specs.dnw_codes.RecordType.{same_record_type}
use Rattle.zst_zone.specs.drd_rdata.Order.{rdata_eq}
use Rattle.zst_zone.specs.drd_rdata.Types.{type_of}
use Rattle.zst_zone.specs.zst_record.Records.{IsServable}
use Rattle.zst_zone.specs.zst_record.declared.records.Record.{Record}
use Rattle.zst_zone.specs.zst_record.RecordSets.{RRset, put_record, set_of, set_with}
use Rattle.zst_zone.specs.zst_handler.Zones.{Zone, ZoneReadsBack, SetReadsBack, rrset_at}
use Rattle.zst_zone.proofs.ReadBack.{each_found, found_of}
use Rattle.authority_load.specs.Joining.{Joins, is_of, joined}

put_step : (b : Bool) (s r : Record) (ss rest : List Record) → IsServable r → IsServable s → AllByRecursion IsServable ss → AllByRecursion IsServable rest
    → AllByRecursion IsServable (cond b (r ∷ ss) (s ∷ rest))
put_step true s r ss rest new first all more = (new, all)
put_step false s r ss rest new first all more = (first, more)

put_reads_back : (rs : List Record) (r : Record) → AllByRecursion IsServable rs → IsServable r → AllByRecursion IsServable (put_record rs r)
put_reads_back [] r all new = (new, tt)
put_reads_back (s ∷ ss) r all new = put_step (rdata_eq s.rdata r.rdata) s r ss (put_record ss r) new all.0 all.1 (put_reads_back ss r all.1 new)

alone_or_put : (same : Bool) (rs : List Record) (r : Record) → AllByRecursion IsServable rs → IsServable r → AllByRecursion IsServable (cond (not same) (r ∷ []) (put_record rs r))
alone_or_put true rs r all new = put_reads_back rs r all new
alone_or_put false rs r all new = (new, tt)

with_reads_back : (o : Option RRset) (r : Record) → ((s : RRset) → o ≡ Some s → SetReadsBack s) → IsServable r → SetReadsBack (set_with o r)
with_reads_back None r old new = record { records = (new, tt); signatures = tt }
with_reads_back (Some s) r old new = record {
  records = alone_or_put (same_class r.dns_class s.dns_class) s.records r (old s refl).records new;
  signatures = tt;
}

joined_reads_back : (b : Bool) (o : Option RRset) (r : Record) → ((s : RRset) → o ≡ Some s → SetReadsBack s) → IsServable r → SetReadsBack (cond b (set_of r) (set_with o r))
joined_reads_back true o r old new = record { records = (new, tt); signatures = tt }
joined_reads_back false o r old new = with_reads_back o r old new

join_step : (b : Bool) (o : Option RRset) (r : Record) (s : RRset) → cond b (Some (joined o r)) o ≡ Some s → ((u : RRset) → o ≡ Some u → SetReadsBack u) → IsServable r → SetReadsBack s
join_step true o r s e old new = let g : joined o r ≡ s = cc in subst SetReadsBack g (joined_reads_back (same_record_type (type_of r.rdata) kind.ANAME) o r old new)
join_step false o r s e old new = old s e

pub joins_reads_back : (old new : Zone) (r : Record) → Joins old r new → ZoneReadsBack old → IsServable r → ZoneReadsBack new
joins_reads_back old new r joins back servable =
    each_found SetReadsBack new.sets joins.ordered
    (λ name t s e. join_step (is_of name t r) (rrset_at old.sets name t) r s (sym (joins.joins name t) ∙ e)
    (λ u there. found_of SetReadsBack name t old.sets u back there) servable)
