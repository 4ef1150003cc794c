use Rattle.std.proofs.Common.{◌∙◌, sym, ap, is_some}
use Rattle.std.specs.Prelude.{◌&&◌, Bool}
use Rattle.zst_zone.specs.dnw_codes.declared.record_type.RecordType.TheVariants as kind
use Rattle.zst_zone.specs.dnw_codes.RecordType.{same_record_type}
use Rattle.zst_zone.specs.zst_handler.Zones.{rrset_at}
use Rattle.zst_zone.proofs.LowerNames.{rrset-keyed}
use Rattle.authority_load.proofs.joining.is_second_start.Goals as goal

pub returns-then-eq : goal.returns-then-eq
returns-then-eq c =
    let sets = c.args.zone.now.sets in
    let name = c.args.next.now.name in
    let same = ap (λ t. same_record_type t kind.SOA) (sym c.record_type.ensures) ∙ sym c.eq.ensures ∙ c.if-eq.true in
    c.has_start.ensures ∙ ap is_some (rrset-keyed sets c.args.key.now name kind.SOA c.requires)
    ∙ sym (ap (λ (b : Bool). b && is_some (rrset_at sets name kind.SOA)) same)
