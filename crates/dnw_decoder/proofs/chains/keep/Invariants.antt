use Rattle.std.proofs.Common.{◌<◌}
use Rattle.dnw_decoder.specs.Chains.{Chain, AreEnds}
use Rattle.dnw_decoder.proofs.chains.keep.Given as goal

abbrev pub invariant-pointers : goal.invariant-pointers
invariant-pointers l = (l.place < 16384) × Chain l.octets l.place l.last × AreEnds l.octets l.kept

abbrev pub decreases-pointers : goal.decreases-pointers
decreases-pointers l = l.place
