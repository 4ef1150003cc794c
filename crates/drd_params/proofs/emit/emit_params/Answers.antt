use Rattle.std.proofs.Common.{◌≤◌, ◌⊎◌, length, ◌∙◌, arith}
use Rattle.std.specs.Prelude.{Err}
use Rattle.drd_params.specs.dnw_codes.declared.error.ProtoError.{ProtoError}
use Rattle.drd_params.specs.dnw_encoder.Effects.{IsRefusal}
use Rattle.drd_params.specs.dnw_encoder.Encoders.{state}
use Rattle.drd_fields.proofs.dnw_encoder_lemmas.Laws.{writes_then}
use Rattle.drd_fields.proofs.WritingLaws.{within_then}
use Rattle.drd_params.specs.Params.{param_octets, params_octets}
use Rattle.drd_params.proofs.Emitting.{IsUnwritable}
use Rattle.drd_param_keys.proofs.Emitting.{put-more, put-refused}
use Rattle.drd_params.proofs.WritingLaws.{only-others}
use Rattle.drd_params.specs.Writing.{RefusesWriting}
use Rattle.drd_params.proofs.emit.emit_params.Goals as goal

pub returns-in-Err-clause-writes : goal.returns-in-Err-clause-writes
returns-in-Err-clause-writes c =
    writes_then (state c.args.encoder.now) (state c.params.encoder) (state c.emit_param.new.encoder) c.params.invariant.put.writes c.emit_param.ensures.writes

pub returns-in-Err-clause-within : goal.returns-in-Err-clause-within
returns-in-Err-clause-within c =
    within_then (state c.args.encoder.now) (state c.params.encoder) (state c.emit_param.new.encoder) c.params.invariant.put.writes.modes.maximum c.emit_param.ensures.writes.forward c.params.invariant.put.within c.emit_param.ensures.within

pub params-preserved : goal.params-preserved
params-preserved c =
    let old = state c.args.encoder.now in
    let within : old.offset ≤ length old.octets = omega (arith, c.offset-start.ensures.value, c.offset-start.ensures.within) in
    record {
      same = c.emit_param.ensures.same_reference ∙ c.params.invariant.same;
      put = put-more param_octets c.args.params.now c.params.param-index c.param-item.result c.param-item.result old (state c.params.encoder) (state c.emit_param.new.encoder)
          (omega arith) within c.param-item.is c.params.invariant.put c.in-Ok.ensures.ok c.emit_param.ensures.writes c.emit_param.ensures.within;
    }

pub returns-in-Err-clause-refused : goal.returns-in-Err-clause-refused
returns-in-Err-clause-refused c =
    put-refused param_octets IsUnwritable c.args.params.now c.params.param-index c.param-item.result (state c.args.encoder.now) (state c.params.encoder) c.in-Err.refused
    (omega arith) c.param-item.is c.params.invariant.put c.in-Err.ensures.refused

pub returns-in-Err-clause-written : goal.returns-in-Err-clause-written
returns-in-Err-clause-written c = λ are.
    let old = state c.args.encoder.now in
    let params = c.args.params.now in
    let e = c.in-Err.refused in
    let why : IsRefusal old (length (params_octets params)) e ⊎ RefusesWriting params e =
    put-refused param_octets IsUnwritable params c.params.param-index c.param-item.result old (state c.params.encoder) e (omega arith) c.param-item.is c.params.invariant.put c.in-Err.ensures.refused in
    only-others {V = Unit {0}} (λ (f : ProtoError). IsRefusal old (length (params_octets params)) f) (Err e) params why are
