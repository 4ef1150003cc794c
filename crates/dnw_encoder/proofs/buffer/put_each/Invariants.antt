use Rattle.std.proofs.Common.{◌≡◌, take}
use Rattle.dnw_encoder.specs.Effects.{written_at}
use Rattle.dnw_encoder.proofs.buffer.put_each.Given as goal

abbrev pub invariant-octets : goal.invariant-octets
invariant-octets l = l.octets ≡ written_at l.initial.octets l.place (take l.i l.more)
