use Rattle.std.proofs.Common.{◌≡◌, take, replicate}
use Rattle.dnw_encoder.specs.Effects.{written_at}
use Rattle.dnw_encoder.proofs.buffer.clear.Given as goal

abbrev pub invariant-octets : goal.invariant-octets
invariant-octets l = l.octets ≡ written_at l.initial.octets l.place (take l.i (replicate l.size 0))
