use Rattle.std.proofs.Common.{sym, subst}
use Rattle.zst_map.specs.ZoneMaps.{AreOwners}
use Rattle.zst_map.proofs.Owning.{are_owners}
use Rattle.zst_map.proofs.map.ZoneMap.owners.Goals as goal

pub returns : goal.returns
returns c =
    subst (AreOwners c.args.self.now) (sym c.keys.ensures.rest)
    (are_owners c.self.inside.nodes c.self.inside.owners c.self.invariant c.args.self.now c.self.view_is)
