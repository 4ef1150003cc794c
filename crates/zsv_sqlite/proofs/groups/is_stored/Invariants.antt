use Rattle.std.proofs.Common.{◌≡◌, drop}
use Rattle.std.specs.List.{list_any}
use Rattle.zst_map.specs.zst_record.Records.{record_eq}
use Rattle.zsv_sqlite.proofs.groups.is_stored.Given as goal

abbrev pub invariant-loop-other : goal.invariant-loop-other
invariant-loop-other l = list_any (record_eq l.asked) (drop l.other-index l.stored) ≡ list_any (record_eq l.asked) l.stored
