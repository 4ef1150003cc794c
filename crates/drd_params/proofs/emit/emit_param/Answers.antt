use Rattle.std.proofs.Common.{◌≤◌, ◌++◌, length, arith}
use Rattle.drd_params.specs.dnw_decoder.Octets.{octets_16}
use Rattle.drd_params.specs.dnw_encoder.Encoders.{state}
use Rattle.drd_fields.proofs.dnw_encoder_lemmas.Laws.{writes_then}
use Rattle.drd_param_keys.specs.Keys.{key_number}
use Rattle.drd_params.specs.Values.{value_octets}
use Rattle.drd_params.proofs.Emitting.{number-put, param-refused}
use Rattle.drd_params.proofs.emit.emit_param.Goals as goal

pub returns-clause-writes : goal.returns-clause-writes
returns-clause-writes c =
    writes_then (state c.args.encoder.now) (state c.emit_u16.new.self) (state c.emit_value.new.encoder) c.emit_u16.ensures.writes c.emit_value.ensures.writes

pub returns-clause-ok : goal.returns-clause-ok
returns-clause-ok c =
    let old = state c.args.encoder.now in
    let octets = value_octets c.args.param.now.1 in
    let within : old.offset ≤ length old.octets = omega (arith, c.offset-start.ensures.value, c.offset-start.ensures.within) in
    number-put c.emit_value.result c.from.result (key_number c.args.param.now.0) (octets_16 (length octets) ++ octets) old (state c.emit_u16.new.self) (state c.emit_value.new.encoder) c.from.ensures within
    c.in-Ok.ensures.ok c.emit_value.ensures.ok

pub returns-clause-refused : goal.returns-clause-refused
returns-clause-refused c =
    param-refused c.emit_value.result c.args.param.now (state c.args.encoder.now) (state c.emit_u16.new.self) c.in-Ok.ensures.ok.offset c.emit_u16.ensures.writes.modes.maximum c.emit_value.ensures.refused
