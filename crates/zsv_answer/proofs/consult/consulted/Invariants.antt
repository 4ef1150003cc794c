use Rattle.std.proofs.Common.{drop, map}
use Rattle.zsv_answer.proofs.Answering.{Ahead}
use Rattle.zsv_answer.proofs.consult.consulted.Given as goal

abbrev pub invariant-handlers : goal.invariant-handlers
invariant-handlers g l =
    Ahead (map g.H.ZoneHandler.view l.handlers) (map g.H.ZoneHandler.view (drop l.at l.handlers)) l.request.name.now l.request.query_type l.fn.answer l.last
