use Rattle.std.proofs.Common.{inl}
use Rattle.dnw_encoder.proofs.dnw_decoder_lemmas.Standing.{length-octets_32}
use Rattle.std.specs.Int.{w32, cast_unsigned}
use Rattle.dnw_encoder.specs.Encoders.{state}
use Rattle.drd_fields.proofs.WritingLaws.{refused_long, puts_within, if_err}
use Rattle.drd_fields.proofs.emit.I32DataField.emit_field.Goals as goal

pub returns-clause-cause : goal.returns-clause-cause
returns-clause-cause c = if_err c.emit_i32.result (λ e refused. inl (refused_long (cast_unsigned w32 c.args.self.now) (state c.args.encoder.now) e refused)) c.emit_i32.ensures.cause

pub returns-clause-within : goal.returns-clause-within
returns-clause-within c = puts_within c.emit_i32.result _ 4 (state c.args.encoder.now) (state c.emit_i32.new.self) (length-octets_32 _) c.emit_i32.ensures.ok c.emit_i32.ensures.fits c.emit_i32.ensures.err
