use Rattle.std.proofs.Common.{inr}
use Rattle.drd_opt.proofs.SubnetLemmas.{no_head}
use Rattle.drd_opt.proofs.subnet.ClientSubnetBinDecodable.read.Goals as goal

pub returns-in-Err-clause-none : goal.returns-in-Err-clause-none
returns-in-Err-clause-none c =
    inr (no_head c.args.decoder.now.octets c.args.decoder.now.index c.in-Err.refused (rw c.in-Err.is at c.read_head.ensures.cause))
