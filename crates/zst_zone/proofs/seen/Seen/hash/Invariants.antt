use Rattle.std.proofs.Common.{◌≡◌}
use Rattle.zst_zone.specs.Seen.{was_seen}
use Rattle.zst_circle.specs.dnw_name.DomainName.{DomainName}
use Rattle.zst_zone.proofs.seen.Seen.hash.Given as goal

-- All that was seen is there.
abbrev pub invariant-keys : goal.invariant-keys
invariant-keys l = (k : DomainName) → was_seen l.self k ≡ was_seen l.initial.self k

abbrev pub decreases-keys : goal.decreases-keys
decreases-keys l = goal.left-keys l
