use Rattle.dnw_encoder.specs.Encoders.{state}
use Rattle.drd_fields.specs.Fields.{rest}
use Rattle.drd_fields.proofs.WritingLaws.{puts_rest, emits_one, on_ok}
use Rattle.drd_fields.proofs.emit.RestFieldDataFields.emit_fields.Goals as goal

pub returns-clause-ok : goal.returns-clause-ok
returns-clause-ok c =
    let octets = c.args.self.now.0.now in
    on_ok c.emit_vec.result (λ puts. emits_one (rest octets) (state c.args.encoder.now) (state c.emit_vec.new.self) (puts_rest octets (state c.args.encoder.now) (state c.emit_vec.new.self) puts)) c.emit_vec.ensures.ok
