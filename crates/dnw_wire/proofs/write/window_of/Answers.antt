use Rattle.dnw_wire.proofs.Windows.{filling_more}
use Rattle.dnw_wire.proofs.write.window_of.Goals as goal

pub octets-preserved : goal.octets-preserved
octets-preserved c =
    let below = c.octets-test.ensures in
    rw c.in_ok-push.ensures.ok
    (filling_more c.args.base c.args.codes.now c.octets.map.items c.octets.rest.now c.octets.at c.octet_of-octet.result.0 c.octet_of-octet.result.1.now c.octets.invariant below.0 below.1 c.octet_of-octet.ensures.types c.octet_of-octet.ensures.rises)
