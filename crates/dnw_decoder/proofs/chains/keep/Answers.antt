use Rattle.std.proofs.Common.{arith}
use Rattle.dnw_decoder.proofs.ChainLaws.{chain_back, chain_inside}
use Rattle.dnw_decoder.proofs.chains.keep.Goals as goal

pub overflow_cast-kept : goal.overflow_cast-kept
overflow_cast-kept c = omega (arith, chain_back c.args.octets.now c.args.first c.args.last c.requires.chain, c.requires.small)

pub pointer_back-requires : goal.pointer_back-requires
pointer_back-requires c = chain_inside c.args.octets.now c.pointers.place c.args.last c.pointers.invariant.1
