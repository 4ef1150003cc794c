use Rattle.std.proofs.Common.{ℕ, arith, inl, sym, subst}
use Rattle.drd_fields.specs.dnw_encoder.Encoders.{state}
use Rattle.drd_fields.specs.dnw_encoder.Effects.{IsRefusal}
use Rattle.drd_params.specs.AddressLaws.{length-octets_32, length_a}
use Rattle.drd_params.proofs.entry.AEntry.emit_entry.Goals as goal

pub returns-in-Err-clause-refused : goal.returns-in-Err-clause-refused
returns-in-Err-clause-refused c =
    inl (subst (λ (n : ℕ). IsRefusal (state c.args.encoder.now) n c.in-Err.refused) (sym (length_a c.args.self.now)) c.in-Err.ensures.cause)

pub returns-in-Ok-clause-within : goal.returns-in-Ok-clause-within
returns-in-Ok-clause-within c = λ moved. omega (arith, length-octets_32 c.to_bits.result, c.in-Ok.ensures.ok.offset, c.in-Ok.ensures.fits)
