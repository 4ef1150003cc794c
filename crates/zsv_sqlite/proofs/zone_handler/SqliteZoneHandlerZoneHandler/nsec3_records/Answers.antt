use Rattle.std.proofs.lemmas.Result.{IfOk-weaker}
use Rattle.zsv_sqlite.proofs.GuardedDenials.{handler_nsec3}
use Rattle.zsv_sqlite.proofs.zone_handler.SqliteZoneHandlerZoneHandler.nsec3_records.Goals as goal

pub returns : goal.returns
returns g c =
    IfOk-weaker c.nsec3_records.result _ _ (λ flow is. handler_nsec3 c.args.self.now c.in_memory.result.now c.in_memory.ensures c.args.options.dnssec_ok flow c.args.info is) c.nsec3_records.ensures
