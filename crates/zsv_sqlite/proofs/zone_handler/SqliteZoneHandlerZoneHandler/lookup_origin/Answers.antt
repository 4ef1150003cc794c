use Rattle.std.proofs.lemmas.Result.{IfOk-weaker}
use Rattle.zsv_sqlite.proofs.Guarding.{handler_origin}
use Rattle.zsv_sqlite.proofs.zone_handler.SqliteZoneHandlerZoneHandler.lookup_origin.Goals as goal

pub returns : goal.returns
returns g c =
    IfOk-weaker c.lookup_origin.result _ _ (λ flow is. handler_origin c.args.self.now c.in_memory.result.now c.in_memory.ensures c.args.record_type c.args.options flow is) c.lookup_origin.ensures
