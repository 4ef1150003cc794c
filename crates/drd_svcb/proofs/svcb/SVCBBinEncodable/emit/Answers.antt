use Rattle.std.proofs.Common.{◌≤◌, List, length, subst, arith}
use Rattle.drd_params.specs.dnw_encoder.Effects.{WritesOctets}
use Rattle.drd_params.specs.dnw_encoder.Encoders.{state}
use Rattle.drd_params.proofs.dnw_encoder_lemmas.Laws.{writes_then}
use Rattle.drd_params.proofs.drd_fields_lemmas.WritingLaws.{on_ok}
use Rattle.drd_params.specs.Params.{Param, params_octets}
use Rattle.drd_svcb.proofs.Writing.{params-refused, parts-written}
use Rattle.drd_svcb.proofs.svcb.SVCBBinEncodable.emit.Goals as goal

pub returns-clause-writes : goal.returns-clause-writes
returns-clause-writes c =
    writes_then (state c.args.encoder.now) (state c.emit_three.new.encoder) (state c.emit_params.new.encoder) c.emit_three.ensures.writes c.emit_params.ensures.writes

pub returns-clause-ok : goal.returns-clause-ok
returns-clause-ok c =
    let svcb = c.args.self.now in
    let old = state c.args.encoder.now in
    let mid = state c.emit_three.new.encoder in
    let new = state c.emit_params.new.encoder in
    let within : old.offset ≤ length old.octets = omega (arith, c.offset-start.ensures.value, c.offset-start.ensures.within) in
    on_ok c.emit_params.result (λ puts.
    parts-written svcb.svc_priority svcb.target_name (params_octets svcb.svc_params.items) old mid new within c.in_ok-emit_three.ensures.ok c.emit_three.ensures.writes
    (subst (λ (ps : List Param). WritesOctets (params_octets ps) mid new) c.deref.ensures.value puts) c.emit_params.ensures.writes c.emit_params.ensures.within) c.emit_params.ensures.ok

pub returns-clause-err : goal.returns-clause-err
returns-clause-err c =
    params-refused c.emit_params.result c.args.self.now c.deref.result.now (state c.args.encoder.now) (state c.emit_three.new.encoder) c.deref.ensures.value c.emit_three.ensures.writes.modes
    c.in_ok-emit_three.ensures.ok.size c.emit_params.ensures.refused c.emit_params.ensures.written
