use Rattle.std.proofs.Common.{length}
use Rattle.drd_types.specs.drd_opt.Entries.{entries_octets}
use Rattle.drd_rdata.proofs.RoomLaws.{LeadsTo}
use Rattle.drd_rdata.proofs.exceeding.room_after_options.Given as goal

abbrev pub invariant-entries : goal.invariant-entries
invariant-entries l = LeadsTo l.initial.left (length (entries_octets l.initial.rest)) l.left (length (entries_octets l.rest))

abbrev pub decreases-entries : goal.decreases-entries
decreases-entries l = length l.rest
