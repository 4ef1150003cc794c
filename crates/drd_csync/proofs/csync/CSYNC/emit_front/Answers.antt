use Rattle.std.proofs.Common.{ℕ, arith, subst}
use Rattle.dnw_wire.specs.dnw_decoder.Octets.{octets_16}
use Rattle.dnw_wire.specs.dnw_encoder.Effects.{WritesOctets}
use Rattle.drd_csync.proofs.Writing.{front_put, flags_refused}
use Rattle.dnw_wire.specs.dnw_encoder.Encoders.{state}
use Rattle.drd_csync.proofs.csync.CSYNC.emit_front.Goals as goal

pub returns-in-Ok-emit_u16-clause-ok : goal.returns-in-Ok-emit_u16-clause-ok
returns-in-Ok-emit_u16-clause-ok c =
    front_put c.args.self.now (state c.args.encoder.now) (state c.emit_u32.new.self) (state c.emit_u16.new.self) (omega (arith, c.offset-start.ensures.within, c.offset-start.ensures.value)) c.in-Ok.ensures.ok
    (subst (λ (n : ℕ). WritesOctets (octets_16 n) (state c.emit_u32.new.self) (state c.emit_u16.new.self)) c.flags.ensures c.in-Ok-emit_u16.ensures.ok)

pub returns-in-Err-emit_u16-clause-cause : goal.returns-in-Err-emit_u16-clause-cause
returns-in-Err-emit_u16-clause-cause c =
    flags_refused c.args.self.now.soa_serial (state c.args.encoder.now) (state c.emit_u32.new.self) c.in-Err-emit_u16.refused c.in-Ok.ensures.ok c.in-Err-emit_u16.ensures.cause
