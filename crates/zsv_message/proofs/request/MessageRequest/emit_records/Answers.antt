use Rattle.std.proofs.Common.{List, ◌++◌, subst}
use Rattle.std.proofs.lemmas.Result.{IfErr-weaker, on_ok_weaker}
use Rattle.zsv_sections.specs.zst_record.dnw_encoder.Effects.{Emitted}
use Rattle.zsv_sections.specs.zst_record.dnw_encoder.Encoders.{state}
use Rattle.zsv_sections.proofs.zst_record_lemmas.dnw_encoder_lemmas.Laws.{writes_then}
use Rattle.zsv_sections.specs.zst_record.Writing.{EmitsRecord, RefusesRecord}
use Rattle.zsv_sections.specs.zst_record.declared.records.Record.{Record}
use Rattle.zsv_message.specs.Writing.{RefusesAmong}
use Rattle.zsv_message.proofs.Listed.{emitted_then, if_passed_on, refused_first, refused_then}
use Rattle.zsv_message.proofs.request.MessageRequest.emit_records.Goals as goal

pub returns-in_err-emit_list-clause-cause : goal.returns-in_err-emit_list-clause-cause
returns-in_err-emit_list-clause-cause c =
    let m = c.args.self.now in
    let old = state c.args.encoder.now in
    let e = c.in_err-emit_list.field-0.0 in
    if_passed_on _ c.from_residual.result e c.from_residual.ensures.1
    (refused_first EmitsRecord (λ r at. RefusesRecord r at e) m.answers (m.authorities ++ m.additionals) old
    (subst (λ (rs : List Record). RefusesAmong EmitsRecord (λ r at. RefusesRecord r at e) old rs) c.answers.ensures c.in_err-emit_list.ensures.cause))

pub returns-in_err-emit_list-2-clause-writes : goal.returns-in_err-emit_list-2-clause-writes
returns-in_err-emit_list-2-clause-writes c =
    writes_then (state c.args.encoder.now) (state c.emit_list.new.encoder) (state c.emit_list-2.new.encoder) c.emit_list.ensures.writes c.emit_list-2.ensures.writes

pub returns-in_err-emit_list-2-clause-cause : goal.returns-in_err-emit_list-2-clause-cause
returns-in_err-emit_list-2-clause-cause c =
    let m = c.args.self.now in
    let old = state c.args.encoder.now in
    let answered = state c.emit_list.new.encoder in
    let e = c.in_err-emit_list-2.field-0.0 in
    if_passed_on _ c.from_residual-in_err-emit_list-2.result e c.from_residual-in_err-emit_list-2.ensures.1
    (refused_then EmitsRecord (λ r at. RefusesRecord r at e) m.answers (m.authorities ++ m.additionals) old answered
    (subst (λ (rs : List Record). Emitted EmitsRecord old rs answered) c.answers.ensures c.in_ok-emit_list.ensures.ok)
    (refused_first EmitsRecord (λ r at. RefusesRecord r at e) m.authorities m.additionals answered
    (subst (λ (rs : List Record). RefusesAmong EmitsRecord (λ r at. RefusesRecord r at e) answered rs) c.authorities.ensures c.in_err-emit_list-2.ensures.cause)))

pub returns-clause-writes : goal.returns-clause-writes
returns-clause-writes c =
    let answered = state c.emit_list.new.encoder in
    let vouched = state c.emit_list-2.new.encoder in
    let new = state c.emit_list-3.new.encoder in
    writes_then (state c.args.encoder.now) answered new c.emit_list.ensures.writes (writes_then answered vouched new c.emit_list-2.ensures.writes c.emit_list-3.ensures.writes)

pub returns-clause-ok : goal.returns-clause-ok
returns-clause-ok c =
    let m = c.args.self.now in
    let old = state c.args.encoder.now in
    let answered = state c.emit_list.new.encoder in
    let vouched = state c.emit_list-2.new.encoder in
    let new = state c.emit_list-3.new.encoder in
    on_ok_weaker c.emit_list-3.result (λ emitted.
    emitted_then EmitsRecord m.answers (m.authorities ++ m.additionals) old answered new
    (subst (λ (rs : List Record). Emitted EmitsRecord old rs answered) c.answers.ensures c.in_ok-emit_list.ensures.ok)
    (emitted_then EmitsRecord m.authorities m.additionals answered vouched new
    (subst (λ (rs : List Record). Emitted EmitsRecord answered rs vouched) c.authorities.ensures c.in_ok-emit_list-2.ensures.ok)
    (subst (λ (rs : List Record). Emitted EmitsRecord vouched rs new) c.additionals.ensures emitted)))
    c.emit_list-3.ensures.ok

pub returns-clause-cause : goal.returns-clause-cause
returns-clause-cause c =
    let m = c.args.self.now in
    let old = state c.args.encoder.now in
    let answered = state c.emit_list.new.encoder in
    let vouched = state c.emit_list-2.new.encoder in
    IfErr-weaker c.emit_list-3.result _ _ (λ e among.
    refused_then EmitsRecord (λ r at. RefusesRecord r at e) m.answers (m.authorities ++ m.additionals) old answered
    (subst (λ (rs : List Record). Emitted EmitsRecord old rs answered) c.answers.ensures c.in_ok-emit_list.ensures.ok)
    (refused_then EmitsRecord (λ r at. RefusesRecord r at e) m.authorities m.additionals answered vouched
    (subst (λ (rs : List Record). Emitted EmitsRecord answered rs vouched) c.authorities.ensures c.in_ok-emit_list-2.ensures.ok)
    (subst (λ (rs : List Record). RefusesAmong EmitsRecord (λ r at. RefusesRecord r at e) vouched rs) c.additionals.ensures among)))
    c.emit_list-3.ensures.cause
