use Rattle.std.proofs.Common.{arith}
use Rattle.dnw_decoder.proofs.ChainLaws.{chain_back}
use Rattle.dnw_decoder.proofs.chains.follow.Goals as goal

pub pointer_back-requires-2 : goal.pointer_back-requires-2
pointer_back-requires-2 c =
    omega (arith, chain_back c.args.octets.now c.args.target c.end_of-last.result c.end_of-last.ensures.chain, c.requires.within)
