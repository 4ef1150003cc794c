use Rattle.std.proofs.Common.{ap, refl, subst, sym}
use Rattle.std.specs.Prelude.{Some}
use Rattle.zst_absence.specs.dnw_codes.declared.dns_class.DNSClass.TheVariants.{IN}
use Rattle.zst_absence.specs.dnw_codes.declared.record_type.RecordType.TheVariants as kind
use Rattle.zst_absence.specs.drd_rdata.declared.rdata.RData.TheVariants.{Unknown}
use Rattle.zst_absence.specs.zst_record.declared.records.Record.{Record}
use Rattle.zst_circle.specs.NsecCircle.{IsNsecOf}
use Rattle.zst_circle.proofs.by_name.set_of_types.Goals as goal

pub returns : goal.returns
returns c =
    let record_of : Record = record { name = c.in_ok-name.name; dns_class = IN; ttl = c.args.ttl; rdata = Unknown kind.NSEC c.with.result } in
    subst (IsNsecOf c.args.owner.now c.args.next.now c.args.types.now c.args.ttl) (sym c.from_record.ensures)
    (record {
      name = c.in_ok-name.ensures.cases;
      record_type = refl;
      class = refl;
      only = record_of;
      one = refl;
      lasts = refl;
      octets = c.in_ok-octets.octets.items;
      held = ap (λ v. Some v.items) c.with.ensures;
      are = c.in_ok-octets.ensures;
      bare = refl;
    })
