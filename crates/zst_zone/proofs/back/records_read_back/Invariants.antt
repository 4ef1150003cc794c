use Rattle.std.proofs.Common.{drop}
use Rattle.std.specs.Prelude.{◌↔◌}
use Rattle.std.specs.List.{AllByRecursion}
use Rattle.zst_circle.specs.zst_record.Records.{IsServable}
use Rattle.zst_zone.proofs.back.records_read_back.Given as goal

abbrev pub invariant-loop-stored : goal.invariant-loop-stored
invariant-loop-stored l = AllByRecursion IsServable (drop l.stored-index l.records) ↔ AllByRecursion IsServable l.records
