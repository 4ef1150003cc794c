use Rattle.std.proofs.Common.{◌≡◌, ℕ, List, [], length, map, ap, Vec, Global}
use Rattle.std.specs.List.{flat_map}
use Rattle.drd_types.specs.drd_fields.Writing.{string_octets}
use Rattle.drd_rdata.proofs.RoomLaws.{leads_end, no_items}
use Rattle.drd_rdata.proofs.exceeding.room_after_strings.Goals as goal

pub returns : goal.returns
returns c =
    leads_end c.args.room (length (flat_map string_octets (map (λ s. s.items) c.args.strings.now))) c.strings.left (length (flat_map string_octets (map (λ s. s.items) c.strings.rest.now))) c.strings.invariant
    (ap (λ (ss : List (Vec ℕ Global)). length (flat_map string_octets (map (λ s. s.items) ss))) (no_items c.strings.rest.now c.in_default.ensures.cases))
