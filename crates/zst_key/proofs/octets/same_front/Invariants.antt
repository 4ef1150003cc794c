use Rattle.std.proofs.Common.{◌≡◌, ◌≤◌, ◌-◌, length, take}
use Rattle.zst_key.proofs.octets.same_front.Given as goal

abbrev pub invariant-octets : goal.invariant-octets
invariant-octets l = record {
  alike : take l.same l.octets ≡ take l.same l.others;
  first : l.same ≤ length l.octets;
  second : l.same ≤ length l.others;
}

abbrev pub decreases-octets : goal.decreases-octets
decreases-octets l = l.both - l.same
