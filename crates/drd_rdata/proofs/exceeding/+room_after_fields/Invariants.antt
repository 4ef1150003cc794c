use Rattle.std.proofs.Common.{length}
use Rattle.drd_rdata.proofs.exceeding.+room_after_fields.Given as goal

abbrev pub decreases-room_after_fields : goal.decreases-room_after_fields
decreases-room_after_fields l = length l.fields.now
