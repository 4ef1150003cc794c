use Rattle.zst_request.specs.Requested.{asked_of}
use Rattle.zst_zone.proofs.Unguarded.{unguarded_context, unguarded_told}
use Rattle.zst_zone.proofs.zone_handler.InMemoryZoneHandlerZoneHandler.update.Goals as goal

pub returns-clause-told : goal.returns-clause-told
returns-clause-told g c =
    unguarded_told c.args.self.now.zone (asked_of c.args.request) c.update_code.result c.update_code.ensures.guard c.update_code.ensures.code

pub returns-clause-context : goal.returns-clause-context
returns-clause-context g c = unguarded_context c.args.self.now.zone (asked_of c.args.request) c.args.now c.update_code.ensures.guard
