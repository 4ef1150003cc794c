use Rattle.std.proofs.Common.{subst}
use Rattle.std.specs.Prelude.{IfOk, option_copied}
use Rattle.zst_map.specs.Preceding.{FindsPreceding}
use Rattle.zst_map.specs.dnw_codes.declared.record_type.RecordType.TheVariants as kind
use Rattle.zst_map.specs.dnw_name.DomainName.{DomainName}
use Rattle.zst_absence.proofs.by_hash.set_by_hash.Goals as goal

pub returns : goal.returns
returns c =
    subst (λ (n : DomainName). IfOk c.set_before.result (λ set. FindsPreceding c.args.sets.now kind.NSEC3 n (option_copied set))) c.in_ok-owner.ensures c.set_before.ensures
