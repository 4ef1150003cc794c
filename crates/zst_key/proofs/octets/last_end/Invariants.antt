use Rattle.std.proofs.Common.{◌<◌, ◌≤◌}
use Rattle.zst_key.proofs.SharedEnds.{NoEndsWithin}
use Rattle.zst_key.proofs.octets.last_end.Given as goal

abbrev pub invariant-octets : goal.invariant-octets
invariant-octets l = record {
  some : 0 < l.from → 0 < l.end;
  within : l.end ≤ l.from;
  none : NoEndsWithin l.octets l.end l.from;
}

abbrev pub decreases-octets : goal.decreases-octets
decreases-octets l = l.end
