use Rattle.std.proofs.Common.{◌≡◌, drop}
use Rattle.zst_record.specs.RecordSets.{least_from}
use Rattle.zst_record.proofs.record_set.least_of.Given as goal

abbrev pub invariant-loop-other : goal.invariant-loop-other
invariant-loop-other l = least_from l.ttl l.records ≡ least_from l.least (drop l.other-index l.records)
