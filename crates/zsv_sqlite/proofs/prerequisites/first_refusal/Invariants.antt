use Rattle.std.proofs.Common.{◌≡◌, drop}
use Rattle.std.specs.Prelude.{Some}
use Rattle.zst_request.specs.Prerequisites.{first_refused, prerequisite_refused}
use Rattle.zst_request.specs.zst_codes.declared.response_code.ResponseCode.{ResponseCode}
use Rattle.zsv_sqlite.specs.Guarded.{refused_unasked}
use Rattle.zsv_sqlite.proofs.prerequisites.first_refusal.Given as goal

abbrev pub invariant-loop-asked : goal.invariant-loop-asked
invariant-loop-asked l =
    (first_refused (prerequisite_refused l.zone.origin l.zone.sets) (drop l.asked-index l.prerequisites) ≡ first_refused (prerequisite_refused l.zone.origin l.zone.sets) l.prerequisites)
    × ((code : ResponseCode) → refused_unasked l.zone.origin l.prerequisites ≡ Some code → refused_unasked l.zone.origin (drop l.asked-index l.prerequisites) ≡ Some code)
