use Rattle.std.proofs.Common.{arith}
use Rattle.drd_csync.proofs.Reading.{stops_front}
use Rattle.drd_csync.proofs.read.read_front.Goals as goal

pub returns-in-Err-clause-none : goal.returns-in-Err-clause-none
returns-in-Err-clause-none c = stops_front c.args.decoder.now.octets c.args.end c.args.decoder.now.index c.in-Err.refused c.read_fields.new.decoder.index (omega (arith, c.index-index.ensures.within, c.index-index.ensures.value)) c.in-Err.ensures.err
