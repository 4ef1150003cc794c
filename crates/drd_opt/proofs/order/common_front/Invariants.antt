use Rattle.std.proofs.Common.{◌≡◌, ◌-◌, ◌≤◌, length, map, take}
use Rattle.drd_opt.specs.Entries.{raw_of}
use Rattle.drd_opt.proofs.order.common_front.Given as goal

abbrev pub invariant-front : goal.invariant-front
invariant-front l = record {
  within : l.front ≤ length l.entries;
  within_others : l.front ≤ length l.others;
  same : map raw_of (take l.front l.entries) ≡ map raw_of (take l.front l.others);
}

abbrev pub decreases-front : goal.decreases-front
decreases-front l = length l.entries - l.front
