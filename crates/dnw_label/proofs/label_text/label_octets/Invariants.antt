use Rattle.std.proofs.Common.{length}
use Rattle.dnw_label.proofs.LabelTextLemmas.{LabelSoFar}
use Rattle.dnw_label.proofs.label_text.label_octets.Given as goal

abbrev pub invariant-octets : goal.invariant-octets
invariant-octets l = LabelSoFar l.text l.octets.items l.rest

abbrev pub decreases-octets : goal.decreases-octets
decreases-octets l = length l.rest
