use Rattle.std.proofs.Common.{length}
use Rattle.dnw_net.proofs.NetworkLemmas.{NumbersSoFar}
use Rattle.dnw_net.proofs.network.read_numbers.Given as goal

abbrev pub invariant-labels : goal.invariant-labels
invariant-labels g l = NumbersSoFar g.N.Numerals.written g.N.Numerals.last l.fn.labels l.left l.numbers (length l.initial.numbers) l.count

abbrev pub decreases-labels : goal.decreases-labels
decreases-labels g l = length l.left
