use Rattle.std.proofs.Common.{inr, arith}
use Rattle.dnw_decoder.specs.Octets.{octets_32}
use Rattle.dnw_decoder.proofs.Standing.{cut_none, length-octets_32}
use Rattle.dnw_decoder.proofs.decodable.U32BinDecodable.read.Goals as goal

pub returns-in-Err-clause-none : goal.returns-in-Err-clause-none
returns-in-Err-clause-none c =
    inr (λ value end there. cut_none c.args.decoder.now.octets c.args.decoder.now.index 4 (octets_32 value) end (length-octets_32 value) (omega arith) c.in-Err.ensures.err.short there)
