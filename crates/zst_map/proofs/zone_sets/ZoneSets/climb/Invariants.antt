use Rattle.std.proofs.Common.{◌≡◌, length}
use Rattle.zst_handler.specs.Found.{above}
use Rattle.zst_map.specs.Searches.{sought_in}
use Rattle.zst_map.proofs.zone_sets.ZoneSets.climb.Given as goal

abbrev pub invariant-levels : goal.invariant-levels
invariant-levels l = above (sought_in l.self l.sought) l.key ≡ above (sought_in l.self l.sought) l.at

abbrev pub decreases-levels : goal.decreases-levels
decreases-levels l = length l.at.labels
