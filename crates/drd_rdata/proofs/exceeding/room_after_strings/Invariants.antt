use Rattle.std.proofs.Common.{length, map}
use Rattle.std.specs.List.{flat_map}
use Rattle.drd_types.specs.drd_fields.Writing.{string_octets}
use Rattle.drd_rdata.proofs.RoomLaws.{LeadsTo}
use Rattle.drd_rdata.proofs.exceeding.room_after_strings.Given as goal

abbrev pub invariant-strings : goal.invariant-strings
invariant-strings l = LeadsTo l.initial.left (length (flat_map string_octets (map (λ s. s.items) l.initial.rest))) l.left (length (flat_map string_octets (map (λ s. s.items) l.rest)))

abbrev pub decreases-strings : goal.decreases-strings
decreases-strings l = length l.rest
