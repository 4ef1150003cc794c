use Rattle.std.proofs.Common.{◌≡◌, length}
use Rattle.zsv_answer.specs.DenialRecords.{is_expanded}
use Rattle.zsv_answer.proofs.denial.is_expanded.Given as goal

abbrev pub invariant-records : goal.invariant-records
invariant-records l = is_expanded l.left ≡ is_expanded l.initial.left

abbrev pub decreases-records : goal.decreases-records
decreases-records l = length l.left
