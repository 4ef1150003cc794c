use Rattle.std.proofs.Common.{◌≡◌, length}
use Rattle.std.specs.Prelude.{None}
use Rattle.zst_circle.specs.zst_handler.Zones.{Zone, empty_zone}
use Rattle.zst_zone.specs.Makings.{PutsAll, first_refusal}
use Rattle.zst_zone.proofs.handler.StoredZone.new.Given as goal

abbrev pub invariant-sets : goal.invariant-sets
invariant-sets l = record {
  none : first_refusal l.fn.records.entries ≡ None;
  left : first_refusal l.left.entries ≡ None;
  puts : (made : Zone) → PutsAll l.zone l.left.entries made → PutsAll (empty_zone l.fn.origin l.fn.settings) l.fn.records.entries made;
}

abbrev pub decreases-sets : goal.decreases-sets
decreases-sets l = length l.left.entries
