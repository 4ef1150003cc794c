use Rattle.std.proofs.Common.{length}
use Rattle.dnw_encoder.proofs.SuffixLaws.{Walked}
use Rattle.dnw_encoder.proofs.candidates.start_of_last.Given as goal

abbrev pub invariant-labels : goal.invariant-labels
invariant-labels l = Walked l.name.labels (length l.labels) l.rest

abbrev pub decreases-labels : goal.decreases-labels
decreases-labels l = length l.rest
