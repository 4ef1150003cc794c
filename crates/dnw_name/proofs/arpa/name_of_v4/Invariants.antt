use Rattle.std.proofs.Common.{length}
use Rattle.dnw_net.specs.ArpaLabels.{v4_labels}
use Rattle.dnw_name.proofs.ArpaLemmas.{ArpaSoFar}
use Rattle.dnw_name.proofs.arpa.name_of_v4.Given as goal

abbrev pub invariant-octets : goal.invariant-octets
invariant-octets l = ArpaSoFar v4_labels l.octets l.name l.left

abbrev pub decreases-octets : goal.decreases-octets
decreases-octets l = length l.left
