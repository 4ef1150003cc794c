use Rattle.std.proofs.Common.{◌≡◌, ℕ, ◌++◌, subst, arith}
use Rattle.dnw_wire.specs.BitMaps.{bits_types, octet_types}
use Rattle.dnw_wire.proofs.bits.octet_of.Goals as goal

pub returns-clause-types : goal.returns-clause-types
unfolding octet_types
returns-clause-types c =
    let all : c.bits.bit ≡ 8 = omega arith in
    subst (λ (n : ℕ). c.args.codes.now ≡ bits_types c.args.base n c.bits.octet ++ c.bits.rest.now) all c.bits.invariant.types
