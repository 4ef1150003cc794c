use Rattle.std.proofs.Common.{length}
use Rattle.drd_svcb.specs.drd_params.Params.{params_octets}
use Rattle.drd_rdata.proofs.RoomLaws.{LeadsTo}
use Rattle.drd_rdata.proofs.exceeding.room_after_params.Given as goal

abbrev pub invariant-params : goal.invariant-params
invariant-params l = LeadsTo l.initial.left (length (params_octets l.initial.rest)) l.left (length (params_octets l.rest))

abbrev pub decreases-params : goal.decreases-params
decreases-params l = length l.rest
