use Rattle.zst_zone.proofs.Unguarded.{own_policy}
use Rattle.zst_zone.proofs.zone_handler.InMemoryZoneHandlerZoneHandler.axfr_policy.Goals as goal

pub returns : goal.returns
returns g c = own_policy c.args.self.now.zone.axfr_policy c.axfr_policy.result c.args.self.now.zone.guard c.axfr_policy.ensures.guard c.axfr_policy.ensures.value
