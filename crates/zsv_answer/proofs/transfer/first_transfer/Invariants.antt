use Rattle.std.proofs.Common.{◌≡◌, length, map}
use Rattle.zsv_answer.specs.Transferring.{transferring}
use Rattle.zsv_answer.proofs.transfer.first_transfer.Given as goal

abbrev pub invariant-handlers : goal.invariant-handlers
invariant-handlers g l = transferring (map g.H.ZoneHandler.view l.rest) ≡ transferring (map g.H.ZoneHandler.view l.handlers)

abbrev pub decreases-handlers : goal.decreases-handlers
decreases-handlers g l = length l.rest
