use Rattle.std.proofs.Common.{ap}
use Rattle.std.specs.Net.Addr.{octets_of}
use Rattle.drd_opt.proofs.SubnetLemmas.{octets_padded}
use Rattle.drd_opt.proofs.subnet.ipv6_of.Goals as goal

pub returns : goal.returns
returns c =
    let whole = octets_padded 16 c.args.octets.now c.requires in
    let made = ap octets_of c.new.ensures in
    cc (whole, made)
