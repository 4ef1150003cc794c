use Rattle.std.proofs.Common.{◌∙◌, ap}
use Rattle.zst_circle.specs.dnw_name.DomainName.{lowercase_name}
use Rattle.zst_zone.proofs.LowerNames.{rrset-keyed}
use Rattle.zst_zone.proofs.handler.StoredZone.get.Goals as goal

pub returns : goal.returns
returns c =
    c.get_at.ensures ∙ rrset-keyed c.args.self.now.sets c.in_ok-key.key c.args.at.now.name c.args.at.now.record_type (c.in_ok-key.ensures.key ∙ ap lowercase_name c.deref.ensures)
