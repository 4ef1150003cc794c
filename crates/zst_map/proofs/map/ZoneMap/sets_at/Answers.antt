use Rattle.std.proofs.Common.{◌∙◌}
use Rattle.zst_map.proofs.Kept.{sets_named}
use Rattle.zst_map.proofs.map.ZoneMap.sets_at.Goals as goal

pub returns : goal.returns
returns c =
    c.sets_under.ensures
    ∙ sets_named c.self.inside.nodes c.self.inside.owners c.self.invariant c.args.self.now c.self.view_is c.args.key.now
