use Rattle.std.proofs.Common.{inr, refl, arith}
use Rattle.dnw_decoder.specs.Octets.{octets_16}
use Rattle.dnw_decoder.proofs.Standing.{cut_none}
use Rattle.dnw_decoder.proofs.decodable.U16BinDecodable.read.Goals as goal

pub returns-in-Err-clause-none : goal.returns-in-Err-clause-none
returns-in-Err-clause-none c =
    inr (λ value end there. cut_none c.args.decoder.now.octets c.args.decoder.now.index 2 (octets_16 value) end refl (omega arith) c.in-Err.ensures.err.short there)
