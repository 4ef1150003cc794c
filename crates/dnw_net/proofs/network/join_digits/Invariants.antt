use Rattle.std.proofs.Common.{◌≡◌, ◌*◌, length, take}
use Rattle.dnw_net.specs.ArpaLabels.{hex_digits}
use Rattle.dnw_net.proofs.network.join_digits.Given as goal

abbrev pub invariant-octets : goal.invariant-octets
invariant-octets l = (hex_digits (take l.i l.octets) ≡ take (2 * l.i) l.digits) × (length l.octets ≡ length l.initial.octets)
