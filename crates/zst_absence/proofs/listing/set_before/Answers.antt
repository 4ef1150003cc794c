use Rattle.std.proofs.Common.{subst}
use Rattle.std.specs.Prelude.{option_copied}
use Rattle.zst_map.specs.Preceding.{FindsPreceding}
use Rattle.zst_map.specs.dnw_name.DomainName.{DomainName}
use Rattle.zst_absence.proofs.Denied.{before_lower}
use Rattle.zst_absence.proofs.listing.set_before.Goals as goal

pub returns : goal.returns
returns c =
    let set = option_copied c.preceding.result in
    before_lower c.args.sets.now c.args.record_type c.args.name.now set
    (subst (λ (n : DomainName). FindsPreceding c.args.sets.now c.args.record_type n set) c.in_ok-key.ensures.key c.preceding.ensures)
