use Rattle.std.proofs.lemmas.Result.{IfOk-weaker}
use Rattle.zsv_sqlite.proofs.Guarding.{handler_lookup}
use Rattle.zsv_sqlite.proofs.zone_handler.SqliteZoneHandlerZoneHandler.lookup.Goals as goal

pub returns : goal.returns
returns g c =
    IfOk-weaker c.lookup.result _ _ (λ flow is. handler_lookup c.args.self.now c.in_memory.result.now c.in_memory.ensures c.args.record_type c.args.options flow c.args.name.now is) c.lookup.ensures
