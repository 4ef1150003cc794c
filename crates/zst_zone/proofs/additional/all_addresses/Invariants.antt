use Rattle.std.proofs.Common.{◌≡◌, ◌++◌, drop, map}
use Rattle.zst_circle.specs.zst_handler.Answers.{set_in}
use Rattle.zst_zone.specs.Answering.{left_to_list, target_addresses}
use Rattle.zst_zone.specs.Seen.{AreRising, seen_keys}
use Rattle.zst_zone.proofs.additional.all_addresses.Given as goal

-- What was found and what is left from here on are all addresses.
abbrev pub invariant-targets : goal.invariant-targets
invariant-targets l =
    AreRising l.seen.rising.items
    × (map set_in l.found.items ++ left_to_list l.sets (seen_keys l.seen) (drop l.next-index l.records) ≡ target_addresses l.sets l.records)
