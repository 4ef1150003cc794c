use Rattle.std.proofs.Common.{◌≡◌, ◌≤◌, true}
use Rattle.zsv_access.specs.Prefixes.{begins_with, has_prefix}
use Rattle.zsv_access.specs.declared.prefix_set.Prefix.{Prefix}
use Rattle.zsv_access.proofs.prefix_set.PrefixSet.longest.Given as goal

abbrev pub invariant-lengths : goal.invariant-lengths
invariant-lengths l =
    (prefix : Prefix) → has_prefix l.self-inside.prefixes.keys prefix ≡ true → begins_with l.width l.addr prefix ≡ true → prefix.len ≤ l.len

abbrev pub decreases-lengths : goal.decreases-lengths
decreases-lengths l = l.len
