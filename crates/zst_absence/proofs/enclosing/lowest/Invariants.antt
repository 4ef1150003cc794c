use Rattle.std.proofs.Common.{◌≡◌, ◌<◌, ◌≤◌, ◌-◌}
use Rattle.std.specs.Prelude.{true, false}
use Rattle.zst_map.specs.zst_handler.Zones.{exists_in}
use Rattle.zst_map.specs.zst_key.Ancestors.{up}
use Rattle.zst_absence.proofs.enclosing.lowest.Given as goal

abbrev pub invariant-halves : goal.invariant-halves
invariant-halves l = record {
  from : l.low ≤ l.absent;
  order : l.absent < l.present;
  to : l.present ≤ l.high;
  none : exists_in l.sets (up l.name l.absent) ≡ false;
  there : exists_in l.sets (up l.name l.present) ≡ true;
}

abbrev pub decreases-halves : goal.decreases-halves
decreases-halves l = l.present - l.absent
