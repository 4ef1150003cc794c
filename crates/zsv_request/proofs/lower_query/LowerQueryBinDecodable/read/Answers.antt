use Rattle.zsv_request.proofs.WantOfMemory.{want_refuses}
use Rattle.zsv_request.proofs.lower_query.LowerQueryBinDecodable.read.Goals as goal

pub returns-in-Err-clause-refused : goal.returns-in-Err-clause-refused
returns-in-Err-clause-refused c = want_refuses c.args.decoder.now.octets c.args.decoder.now.index
