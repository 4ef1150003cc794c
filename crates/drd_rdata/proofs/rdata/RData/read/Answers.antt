use Rattle.drd_rdata.proofs.BackLaws.{ok_canonical}
use Rattle.drd_rdata.proofs.ReadBackLaws.{ok_back}
use Rattle.drd_rdata.proofs.WritingLaws.{ok_room}
use Rattle.drd_rdata.proofs.rdata.RData.read.Goals as goal

pub returns-clause-canonical : goal.returns-clause-canonical
returns-clause-canonical c =
    ok_canonical c.args.record_type c.args.decoder.now.octets c.args.decoder.now.index c.args.length
    c.read_some.result c.read_some.ensures.ok

pub returns-clause-written : goal.returns-clause-written
returns-clause-written c =
    ok_room c.args.record_type c.args.decoder.now.octets c.args.decoder.now.index c.args.length
    c.read_some.result c.read_some.ensures.ok

pub returns-clause-back : goal.returns-clause-back
returns-clause-back c =
    λ some. ok_back c.args.record_type c.args.decoder.now.octets c.args.decoder.now.index c.args.length
    c.read_some.result c.read_some.ensures.ok
