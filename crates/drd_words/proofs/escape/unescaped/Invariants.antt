use Rattle.std.proofs.Common.{length}
use Rattle.drd_words.proofs.Escaped.{SoFar}
use Rattle.drd_words.proofs.escape.unescaped.Given as goal

abbrev pub invariant-octets : goal.invariant-octets
invariant-octets l = SoFar l.text l.octets.items l.rest

abbrev pub decreases-octets : goal.decreases-octets
decreases-octets l = length l.rest
