use Rattle.std.proofs.Common.{ℕ, inr, refl, arith}
use Rattle.dnw_encoder.specs.dnw_decoder.Octets.{octets_16}
use Rattle.dnw_encoder.proofs.dnw_decoder_lemmas.Standing.{cut_none}
use Rattle.drd_param_keys.specs.Keys.{key_number}
use Rattle.drd_param_keys.specs.declared.key.SvcParamKey.{SvcParamKey}
use Rattle.drd_param_keys.proofs.octets.SvcParamKeyBinDecodable.read.Goals as goal

pub returns-in-Err-clause-none : goal.returns-in-Err-clause-none
returns-in-Err-clause-none c =
    inr (λ (key : SvcParamKey) (end : ℕ) there. cut_none c.args.decoder.now.octets c.args.decoder.now.index 2 (octets_16 (key_number key)) end refl (omega arith) c.in-Err.ensures.err.short there.there)
