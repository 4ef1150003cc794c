use Rattle.std.proofs.Common.{◌≤◌, length, arith}
use Rattle.drd_params.specs.dnw_encoder.Encoders.{state}
use Rattle.drd_fields.proofs.dnw_encoder_lemmas.Laws.{writes_then}
use Rattle.drd_params.specs.Values.{value_octets}
use Rattle.drd_params.proofs.Emitting.{number-put}
use Rattle.drd_params.proofs.emit.emit_value.Goals as goal

pub returns-clause-writes : goal.returns-clause-writes
returns-clause-writes c =
    writes_then (state c.args.encoder.now) (state c.emit_u16.new.self) (state c.emit_octets.new.encoder) c.emit_u16.ensures.writes c.emit_octets.ensures.writes

pub returns-clause-ok : goal.returns-clause-ok
returns-clause-ok c =
    let old = state c.args.encoder.now in
    let within : old.offset ≤ length old.octets = omega (arith, c.offset-start.ensures.value, c.offset-start.ensures.within) in
    number-put c.emit_octets.result c.in-Some.len (length (value_octets c.args.value.now)) (value_octets c.args.value.now) old (state c.emit_u16.new.self) (state c.emit_octets.new.encoder) c.in-Some.ensures within
    c.in-Ok.ensures.ok c.emit_octets.ensures.ok
