use Rattle.std.proofs.lemmas.Result.{IfOk-weaker}
use Rattle.zsv_sqlite.proofs.GuardedDenials.{handler_nsec}
use Rattle.zsv_sqlite.proofs.zone_handler.SqliteZoneHandlerZoneHandler.nsec_records.Goals as goal

pub returns : goal.returns
returns g c =
    IfOk-weaker c.nsec_records.result _ _ (λ flow is. handler_nsec c.args.self.now c.in_memory.result.now c.in_memory.ensures c.args.options.dnssec_ok flow c.args.name.now is) c.nsec_records.ensures
