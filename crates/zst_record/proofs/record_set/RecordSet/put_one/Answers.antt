use Rattle.std.proofs.Common.{◌∙◌, ap, subst, sym}
use Rattle.std.specs.Prelude.{◌≡◌, true}
use Rattle.drd_rdata.specs.dnw_codes.DNSClass.{same_class}
use Rattle.drd_rdata.specs.dnw_codes.RecordType.{same_record_type}
use Rattle.drd_rdata.specs.dnw_name.DomainName.{name_eq}
use Rattle.drd_rdata.specs.Types.{type_of}
use Rattle.std.proofs.Common.{◌⊎◌}
use Rattle.zst_record.specs.OneOrMany.{items_of}
use Rattle.zst_record.specs.RecordSets.{RRset, with_one}
use Rattle.zst_record.proofs.PutRecords.{alone_is, held_after, held_one, put_is}
use Rattle.zst_record.proofs.record_set.RecordSet.put_one.Goals as goal

pub invariant_of-self : goal.invariant_of-self
invariant_of-self c =
    held_one c.args.next c.self.inside.record_type (items_of c.set_only.new.self) c.clear.new.self.items c.set_only.ensures c.clear.ensures.items
    (subst (λ (s : RRset). same_record_type (type_of c.args.next.rdata) s.record_type ≡ true) (sym c.self.view_is) c.requires.kind) _

pub returns-then-either-clause-ok : goal.returns-then-either-clause-ok
returns-then-either-clause-ok c =
    rw (c.clear.ensures.items, c.set_only.ensures)
    (alone_is c.self.inside.record_type c.args.alone c.self.inside.is_empty (items_of c.self.inside.records) c.self.inside.rrsigs.items c.args.next (sym c.either.ensures ∙ c.if-either.true)
    ∙ ap (λ (s : RRset). with_one c.args.alone s c.args.next) c.self.view_is)

pub invariant_of-self-2 : goal.invariant_of-self-2
invariant_of-self-2 c =
    rw (c.in_ok-put_record.ensures.ok, c.clear-2.ensures.items)
    (held_after c.self.inside.record_type c.args.alone c.self.inside.is_empty (items_of c.self.inside.records) c.self.inside.rrsigs.items c.args.next
    (sym c.either.ensures ∙ c.if-either.false) c.self.invariant
    (subst (λ (s : RRset). name_eq c.args.next.name s.name ≡ true) (sym c.self.view_is) c.requires.owner)
    (subst (λ (s : RRset). (c.args.alone ≡ true) ⊎ (same_class c.args.next.dns_class s.dns_class ≡ true)) (sym c.self.view_is) c.requires.class)
    (subst (λ (s : RRset). same_record_type (type_of c.args.next.rdata) s.record_type ≡ true) (sym c.self.view_is) c.requires.kind))

pub returns-clause-ok : goal.returns-clause-ok
returns-clause-ok c =
    rw (c.in_ok-put_record.ensures.ok, c.clear-2.ensures.items)
    (put_is c.self.inside.record_type c.args.alone c.self.inside.is_empty (items_of c.self.inside.records) c.self.inside.rrsigs.items c.args.next (sym c.either.ensures ∙ c.if-either.false)
    ∙ ap (λ (s : RRset). with_one c.args.alone s c.args.next) c.self.view_is)
