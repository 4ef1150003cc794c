use Rattle.std.proofs.lemmas.Result.{IfOk-weaker}
use Rattle.zsv_sqlite.proofs.Guarding.{handler_question}
use Rattle.zsv_sqlite.proofs.zone_handler.SqliteZoneHandlerZoneHandler.search.Goals as goal

pub returns-clause-flow : goal.returns-clause-flow
returns-clause-flow g c =
    IfOk-weaker c.search.result _ _
    (λ given is. handler_question c.args.self.now c.in_memory.result.now c.in_memory.ensures c.args.request.now.query_type c.args.options given.0 c.args.request.now.name.now is)
    c.search.ensures.flow
