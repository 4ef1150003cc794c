use Rattle.std.proofs.Common.{◌^◌, ◌<◌, sym}
use Rattle.std.proofs.Math.Nat.{div-eq_of_lt}
use Rattle.dnw_net.proofs.net.front_v6.Goals as goal

pub returns-then-rest-eq128 : goal.returns-then-rest-eq128
returns-then-rest-eq128 c =
    let small : c.to_bits-bits.result < 2 ^ 128 = c.to_bits-bits.type_inv in
    rw (c.if-rest-eq128.true, ← c.to_bits-bits.ensures) (sym (div-eq_of_lt small))
