-- Equality of records holds of each and itself, both ways round, and along a chain.
use Rattle.std.specs.Cmp.{IsEquivalence}
use Rattle.std.specs.Cmp.Rules.{comparing}
use Rattle.std.proofs.Common.{rules}
use Rattle.std.proofs.lemmas.Cmp.{and_equiv, on_equiv}
use Rattle.drd_rdata.specs.dnw_codes.DNSClass.{same_class}
use Rattle.drd_rdata.specs.dnw_name.DomainName.{name_eq}
use Rattle.drd_rdata.specs.OrderLaws.{rdata_equiv}
use Rattle.zst_record.specs.declared.records.Record.{Record}
use Rattle.zst_record.specs.Records.{record_eq}

pub name_eq_equiv : IsEquivalence name_eq
name_eq_equiv = Prim.search (comparing, rules) depth 12

pub class_equiv : IsEquivalence same_class
class_equiv = Prim.search (comparing, rules)

pub record_equiv : IsEquivalence record_eq
record_equiv =
    and_equiv (on_equiv (λ (r : Record). r.name) name_eq_equiv)
    (and_equiv (on_equiv (λ (r : Record). r.dns_class) class_equiv)
    (on_equiv (λ (r : Record). r.rdata) rdata_equiv))
