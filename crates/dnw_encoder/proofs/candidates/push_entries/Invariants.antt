use Rattle.std.proofs.Common.{length}
use Rattle.dnw_encoder.proofs.KeepingLaws.{Pushed}
use Rattle.dnw_encoder.proofs.candidates.push_entries.Given as goal

abbrev pub invariant-labels : goal.invariant-labels
invariant-labels l = Pushed l.name.labels l.front l.to l.start l.end l.rest l.initial.entries.items l.entries.items

abbrev pub decreases-labels : goal.decreases-labels
decreases-labels l = length l.rest
