use Rattle.std.proofs.Common.{◌∙◌, ap}
use Rattle.zst_circle.specs.dnw_name.DomainName.{is_at_or_below}
use Rattle.zst_circle.specs.zst_handler.Zones.{Zone}
use Rattle.zst_key.proofs.KeyLemmas.{above-lower}
use Rattle.zst_zone.proofs.handler.StoredZone.is_in_zone.Goals as goal

pub returns : goal.returns
returns c =
    c.is_at_or_below.ensures ∙ ap (is_at_or_below c.args.key.now) c.self.invariant.at
    ∙ above-lower c.args.key.now c.self.inside.origin
    ∙ ap (λ (z : Zone). is_at_or_below c.args.key.now z.origin) c.self.view_is
