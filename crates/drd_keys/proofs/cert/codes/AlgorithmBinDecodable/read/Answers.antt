use Rattle.std.proofs.Common.{inr, refl, arith, ◌∷◌, []}
use Rattle.drd_fields.proofs.dnw_decoder_lemmas.Standing.{cut_none}
use Rattle.drd_keys.proofs.cert.codes.AlgorithmBinDecodable.read.Goals as goal

pub returns-in-Err-clause-none : goal.returns-in-Err-clause-none
returns-in-Err-clause-none c =
    inr (λ value end found. cut_none c.args.decoder.now.octets c.args.decoder.now.index 1 (found.number ∷ []) end refl (omega arith) c.in-Err.ensures.err.short found.there)
