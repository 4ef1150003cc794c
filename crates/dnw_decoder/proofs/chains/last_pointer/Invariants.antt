use Rattle.dnw_decoder.proofs.ChainLaws.{IsFollowed}
use Rattle.dnw_decoder.proofs.chains.last_pointer.Given as goal

abbrev pub invariant-pointers : goal.invariant-pointers
invariant-pointers l = IsFollowed l.octets l.first l.last l.place

abbrev pub decreases-pointers : goal.decreases-pointers
decreases-pointers l = l.place
