use Rattle.std.proofs.Common.{length}
use Rattle.dnw_encoder.proofs.StartLaws.{Gone}
use Rattle.dnw_encoder.proofs.candidates.least_of.Given as goal

abbrev pub invariant-labels : goal.invariant-labels
invariant-labels l = Gone l.starts.marks l.name.labels l.rest

abbrev pub decreases-labels : goal.decreases-labels
decreases-labels l = length l.rest
