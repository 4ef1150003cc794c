use Rattle.std.proofs.Common.{◌∙◌}
use Rattle.zsv_sections.specs.zst_record.dnw_encoder.Encoders.{state}
use Rattle.zsv_sections.proofs.zst_record_lemmas.dnw_encoder_lemmas.Laws.{writes_then}
use Rattle.zsv_message.proofs.Listed.{emitted_first, if_passed_on, refused_behind, refused_here}
use Rattle.zsv_message.proofs.emit.emit_list.Goals as goal

pub returns-in_err-emit-clause-writes : goal.returns-in_err-emit-clause-writes
returns-in_err-emit-clause-writes g c =
    writes_then (state c.args.encoder.now) (state c.values.encoder) (state c.emit.new.encoder) c.values.invariant.writes c.emit.ensures.writes

pub returns-in_err-emit-clause-cause : goal.returns-in_err-emit-clause-cause
returns-in_err-emit-clause-cause g c =
    let e = c.in_err-emit.field-0.0 in
    let new = state c.emit.new.encoder in
    if_passed_on _ c.from_residual.result e c.from_residual.ensures.1
    (c.values.invariant.cause e new (refused_here g.E.BinEncodable.emits (λ value at. g.E.BinEncodable.refuses value at e new) c.in-Some.value.now c.in-Some.later.now c.values.left.now (state c.values.encoder) c.in-Some.ensures.cases.0 c.in_err-emit.ensures.err))

pub values-preserved : goal.values-preserved
values-preserved g c =
    let emits = g.E.BinEncodable.emits in
    let before = state c.values.encoder in
    let behind = state c.emit.new.encoder in
    let split = c.in-Some.ensures.cases.0 in
    record {
      same_reference = c.emit.ensures.same_reference ∙ c.values.invariant.same_reference;
      writes = writes_then (state c.args.encoder.now) before behind c.values.invariant.writes c.emit.ensures.writes;
      ok = λ new more. c.values.invariant.ok new (emitted_first emits c.in-Some.value.now c.in-Some.later.now c.values.left.now before behind new split c.in_ok-emit.ensures.ok c.emit.ensures.writes more);
      cause = λ e new more.
          c.values.invariant.cause e new
          (refused_behind emits (λ value at. g.E.BinEncodable.refuses value at e new) c.in-Some.value.now c.in-Some.later.now c.values.left.now before behind split c.in_ok-emit.ensures.ok c.emit.ensures.writes more);
    }
