use Rattle.std.proofs.Common.{◌≡◌, length}
use Rattle.zst_request.specs.Transfers.{without_start}
use Rattle.zst_request.proofs.transfer.next_but_start.Given as goal

abbrev pub invariant-records : goal.invariant-records
invariant-records l = without_start l.origin l.records ≡ without_start l.origin l.initial.records

abbrev pub decreases-records : goal.decreases-records
decreases-records l = length l.records
