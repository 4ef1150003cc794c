use Rattle.zst_request.specs.Requested.{asked_of}
use Rattle.zst_zone.proofs.Unguarded.{unguarded_transfer}
use Rattle.zst_zone.proofs.zone_handler.InMemoryZoneHandlerZoneHandler.zone_transfer.Goals as goal

pub returns-clause-given : goal.returns-clause-given
returns-clause-given g c =
    unguarded_transfer c.args.self.now.zone (asked_of c.args.request.now) c.args.options.dnssec_ok c.args.now c.transfer.result c.transfer.ensures.guard c.transfer.ensures.answer
