use Rattle.std.proofs.Common.{◌≡◌, length}
use Rattle.zsv_answer.specs.Shown.{shown_to}
use Rattle.zsv_answer.proofs.records.next_shown.Given as goal

abbrev pub invariant-records : goal.invariant-records
invariant-records l = shown_to l.asked l.records ≡ shown_to l.asked l.initial.records

abbrev pub decreases-records : goal.decreases-records
decreases-records l = length l.records
