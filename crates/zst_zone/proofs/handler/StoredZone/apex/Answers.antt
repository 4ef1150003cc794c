use Rattle.std.proofs.Common.{◌∙◌, ap}
use Rattle.zst_circle.specs.zst_handler.Zones.{Zone, rrset_at}
use Rattle.zst_zone.proofs.LowerNames.{rrset-keyed}
use Rattle.zst_zone.proofs.handler.StoredZone.apex.Goals as goal

pub returns : goal.returns
returns c =
    c.get.ensures ∙ rrset-keyed c.self.inside.sets c.self.inside.origin_key c.self.inside.origin c.args.record_type c.self.invariant.at
    ∙ ap (λ (z : Zone). rrset_at z.sets z.origin c.args.record_type) c.self.view_is
