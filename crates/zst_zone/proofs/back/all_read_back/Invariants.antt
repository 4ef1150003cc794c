use Rattle.std.specs.Prelude.{◌↔◌}
use Rattle.std.specs.List.{AllByRecursion}
use Rattle.zst_circle.specs.zst_handler.Zones.{SetReadsBack}
use Rattle.zst_zone.proofs.back.all_read_back.Given as goal

abbrev pub invariant-loop-set : goal.invariant-loop-set
invariant-loop-set l = AllByRecursion SetReadsBack l.set-iterator ↔ AllByRecursion SetReadsBack l.sets
