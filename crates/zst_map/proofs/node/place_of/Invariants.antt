use Rattle.std.proofs.Common.{◌≡◌, drop}
use Rattle.zst_handler.specs.dnw_codes.RecordType.{record_type_number}
use Rattle.zst_map.specs.ZoneMaps.{place_from}
use Rattle.zst_map.proofs.node.place_of.Given as goal

abbrev pub invariant-loop-place : goal.invariant-loop-place
invariant-loop-place l =
    place_from l.place (drop l.place l.sets) (record_type_number l.record_type) ≡ place_from 0 l.sets (record_type_number l.record_type)
