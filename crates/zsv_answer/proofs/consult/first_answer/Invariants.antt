use Rattle.std.proofs.Common.{◌≡◌, drop, map}
use Rattle.zsv_answer.specs.Resolution.{answering}
use Rattle.zsv_answer.proofs.consult.first_answer.Given as goal

abbrev pub invariant-handlers : goal.invariant-handlers
invariant-handlers g l =
    answering (map g.H.ZoneHandler.view (drop l.place l.handlers)) l.request.name.now ≡ answering (map g.H.ZoneHandler.view l.handlers) l.request.name.now
