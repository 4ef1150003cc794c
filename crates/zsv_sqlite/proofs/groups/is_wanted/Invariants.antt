use Rattle.std.proofs.Common.{◌≡◌, drop, map}
use Rattle.std.specs.List.{list_any}
use Rattle.zst_map.specs.zst_record.Records.{record_eq}
use Rattle.zsv_sqlite.proofs.groups.is_wanted.Given as goal

abbrev pub invariant-loop-asked : goal.invariant-loop-asked
invariant-loop-asked l = list_any (record_eq l.member) (map (λ r. r.now) (drop l.asked-index l.wanted)) ≡ list_any (record_eq l.member) (map (λ r. r.now) l.wanted)
