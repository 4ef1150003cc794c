use Rattle.std.proofs.Common.{◌∙◌, ap, map}
use Rattle.std.specs.Prelude.{option_map}
use Rattle.authority_handle.proofs.Removed.{not_there}
use Rattle.authority_handle.specs.Worlds.{view_of, world_in}
use Rattle.authority_handle.proofs.server.Server.remove.Goals as goal

pub returns-clause-unchanged : goal.returns-clause-unchanged
returns-clause-unchanged c =
    c.remove.ensures.after
    ∙ not_there (world_in c.args.self.now) c.in_ok-name.name
    (c.remove.ensures.views ∙ ap (option_map (λ handlers. map view_of handlers.items)) c.in-None.is)
