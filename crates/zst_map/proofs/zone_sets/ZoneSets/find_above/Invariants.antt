use Rattle.std.proofs.Common.{◌≡◌}
use Rattle.std.specs.Prelude.{None}
use Rattle.zst_key.specs.Ancestors.{nearest_in}
use Rattle.zst_map.specs.ZoneMaps.{owned}
use Rattle.zst_map.proofs.zone_sets.ZoneSets.find_above.Given as goal

-- The nearest owner from the name up is the nearest above this name, which owns nothing.
abbrev pub invariant-levels : goal.invariant-levels
invariant-levels l =
    (owned l.self l.above ≡ None) × (nearest_in (owned l.self) l.key ≡ nearest_in (owned l.self) l.above)
