use Rattle.std.proofs.Common.{◌∙◌, ap, sym}
use Rattle.std.specs.Prelude.{option_copied}
use Rattle.zst_map.specs.dnw_codes.declared.record_type.RecordType.TheVariants as kind
use Rattle.zst_map.specs.dnw_name.DomainName.{DomainName}
use Rattle.zst_map.specs.zst_handler.Zones.{rrset_at}
use Rattle.zst_absence.proofs.Denied.{found_key}
use Rattle.zst_absence.proofs.by_hash.own_set.Goals as goal

pub returns : goal.returns
returns c =
    sym (found_key c.args.sets.now c.in_ok-key.key c.in_ok-owner.owner kind.NSEC3 (option_copied c.get.result) c.in_ok-key.ensures.key c.get.ensures)
    ∙ ap (λ (n : DomainName). rrset_at c.args.sets.now n kind.NSEC3) c.in_ok-owner.ensures
