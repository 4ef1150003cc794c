use Rattle.std.proofs.Common.{◌≤◌, length, arith}
use Rattle.dnw_encoder.specs.Encoders.{state}
use Rattle.dnw_encoder.proofs.Laws.{writes_then}
use Rattle.drd_fields.proofs.WritingLaws.{emits_more, on_ok}
use Rattle.drd_fields.proofs.emit.Tuple2DataFields.emit_fields.Goals as goal

pub returns-clause-writes : goal.returns-clause-writes
returns-clause-writes g c =
    writes_then (state c.args.encoder.now) (state c.emit_field.new.encoder) (state c.emit_fields.new.encoder) c.emit_field.ensures.writes c.emit_fields.ensures.writes

pub returns-clause-ok : goal.returns-clause-ok
returns-clause-ok g c =
    let old = state c.args.encoder.now in
    let mid = state c.emit_field.new.encoder in
    let new = state c.emit_fields.new.encoder in
    let within : old.offset ≤ length old.octets = omega (arith, c.offset-start.ensures.value, c.offset-start.ensures.within) in
    on_ok c.emit_fields.result (λ later. emits_more (g.A.DataField.field c.args.self.now.0) (g.B.DataFields.fields c.args.self.now.1) old mid new within c.in_ok-emit_field.ensures.ok c.emit_field.ensures.writes later c.emit_fields.ensures.writes) c.emit_fields.ensures.ok
