use Rattle.std.proofs.Common.{◌-◌, ◌≡◌, ◌+◌, ◌≤◌, min, length}
use Rattle.zst_key.proofs.WordOrder.{AreAlike}
use Rattle.zst_key.proofs.octets.order_from.Given as goal

abbrev pub invariant-words : goal.invariant-words
invariant-words l = record {
  last : l.last + 8 ≡ min (length l.first) (length l.second);
  within : l.at ≤ min (length l.first) (length l.second);
  alike : AreAlike l.first l.second l.at;
}

abbrev pub decreases-words : goal.decreases-words
decreases-words l = l.last - l.at
