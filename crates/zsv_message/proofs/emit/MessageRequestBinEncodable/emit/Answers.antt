use Rattle.std.proofs.Common.{◌<◌, ◌^◌, ◌++◌, inr, subst, rules}
use Rattle.std.proofs.lemmas.Result.{IfErr-weaker, on_ok_weaker}
use Rattle.std.specs.Prelude.{Option, option_to_list}
use Rattle.zsv_sections.specs.zst_record.dnw_encoder.Effects.{Emitted, WritesOctets}
use Rattle.zsv_sections.specs.zst_record.dnw_encoder.Encoders.{state}
use Rattle.zsv_sections.proofs.zst_record_lemmas.dnw_encoder_lemmas.Laws.{writes_then}
use Rattle.zst_edns.specs.Writing.{EmitsEdns, RefusesEdns}
use Rattle.zst_edns.specs.declared.edns.Edns.{Edns}
use Rattle.zsv_sections.specs.zsv_parts.declared.header.Header.{Header}
use Rattle.zsv_sections.specs.zsv_parts.declared.tsig.TsigRecord.{TsigRecord}
use Rattle.zsv_sections.specs.zsv_parts.Headers.{header_octets}
use Rattle.zsv_sections.specs.zsv_parts.SignatureRecords.{EmitsTsigRecord, RefusesTsigRecord}
use Rattle.zsv_message.specs.Writing.{RefusesAmong, no_options, no_record, no_signature}
use Rattle.zsv_message.proofs.Listed.{if_passed_on}
use Rattle.zsv_message.proofs.WrittenMessages.{Steps, not_whole, steps_emit}
use Rattle.zsv_message.proofs.emit.MessageRequestBinEncodable.emit.Goals as goal

pub returns-in_err-emit_records-clause-writes : goal.returns-in_err-emit_records-clause-writes
returns-in_err-emit_records-clause-writes c =
    writes_then (state c.args.encoder.now) (state c.emit_front.new.encoder) (state c.emit_records.new.encoder) c.emit_front.ensures.writes c.emit_records.ensures.writes

pub returns-in_err-emit_records-clause-err : goal.returns-in_err-emit_records-clause-err
returns-in_err-emit_records-clause-err c =
    let m = c.args.self.now in
    let old = state c.args.encoder.now in
    let start = state c.emit_front.new.encoder in
    let e = c.in_err-emit_records.field-0.0 in
    let front = subst (λ (h : Header). WritesOctets (header_octets h ++ m.asked.octets) old start) c.in_ok-header.ensures.0 c.in_ok-emit_front.ensures.ok in
    if_passed_on _ c.from_residual-in_err-emit_records.result e c.from_residual-in_err-emit_records.ensures.1
    (inr (not_whole m old e c.in_ok-header.ensures.1 (no_record start front c.in_err-emit_records.ensures.cause)))

pub returns-in_err-emit_any-clause-writes : goal.returns-in_err-emit_any-clause-writes
returns-in_err-emit_any-clause-writes c =
    let start = state c.emit_front.new.encoder in
    let behind = state c.emit_records.new.encoder in
    let last = state c.emit_any.new.encoder in
    writes_then (state c.args.encoder.now) start last c.emit_front.ensures.writes (writes_then start behind last c.emit_records.ensures.writes c.emit_any.ensures.writes)

pub returns-in_err-emit_any-clause-err : goal.returns-in_err-emit_any-clause-err
returns-in_err-emit_any-clause-err c =
    let m = c.args.self.now in
    let old = state c.args.encoder.now in
    let start = state c.emit_front.new.encoder in
    let behind = state c.emit_records.new.encoder in
    let e = c.in_err-emit_any.field-0.0 in
    let front = subst (λ (h : Header). WritesOctets (header_octets h ++ m.asked.octets) old start) c.in_ok-header.ensures.0 c.in_ok-emit_front.ensures.ok in
    let among = subst (λ (o : Option Edns). RefusesAmong EmitsEdns (λ edns at. RefusesEdns edns at e) behind (option_to_list o)) c.edns.ensures c.in_err-emit_any.ensures.cause in
    if_passed_on _ c.from_residual-in_err-emit_any.result e c.from_residual-in_err-emit_any.ensures.1
    (inr (not_whole m old e c.in_ok-header.ensures.1 (no_options start behind front c.in_ok-emit_records.ensures.ok among)))

pub returns-clause-writes : goal.returns-clause-writes
returns-clause-writes c =
    let start = state c.emit_front.new.encoder in
    let behind = state c.emit_records.new.encoder in
    let last = state c.emit_any.new.encoder in
    let new = state c.emit_any-2.new.encoder in
    writes_then (state c.args.encoder.now) start new c.emit_front.ensures.writes
    (writes_then start behind new c.emit_records.ensures.writes (writes_then behind last new c.emit_any.ensures.writes c.emit_any-2.ensures.writes))

pub returns-clause-ok : goal.returns-clause-ok
returns-clause-ok c =
    let m = c.args.self.now in
    let old = state c.args.encoder.now in
    let start = state c.emit_front.new.encoder in
    let behind = state c.emit_records.new.encoder in
    let last = state c.emit_any.new.encoder in
    let new = state c.emit_any-2.new.encoder in
    let small_id : c.in_ok-header.header.metadata.id < 2 ^ 16 = search rules in
    let few : c.in_ok-header.header.counts.queries < 2 ^ 16 = search rules in
    let is = c.in_ok-header.ensures.0 in
    on_ok_weaker c.emit_any-2.result (λ emitted.
    let steps : Steps m old start behind last new = record {
      countable = c.in_ok-header.ensures.1;
      id = subst (λ (h : Header). h.metadata.id < 2 ^ 16) is small_id;
      few = subst (λ (h : Header). h.counts.queries < 2 ^ 16) is few;
      front = subst (λ (h : Header). WritesOctets (header_octets h ++ m.asked.octets) old start) is c.in_ok-emit_front.ensures.ok;
      begins = c.emit_front.ensures.writes;
      room = c.in_ok-emit_front.ensures.fits;
      records = c.in_ok-emit_records.ensures.ok;
      edns = subst (λ (o : Option Edns). Emitted EmitsEdns behind (option_to_list o) last) c.edns.ensures c.in_ok-emit_any.ensures.ok;
      signature = subst (λ (o : Option TsigRecord). Emitted EmitsTsigRecord last (option_to_list o) new) c.signature.ensures emitted;
    } in
    steps_emit m old start behind last new steps) c.emit_any-2.ensures.ok

pub returns-clause-err : goal.returns-clause-err
returns-clause-err c =
    let m = c.args.self.now in
    let old = state c.args.encoder.now in
    let start = state c.emit_front.new.encoder in
    let behind = state c.emit_records.new.encoder in
    let last = state c.emit_any.new.encoder in
    let front = subst (λ (h : Header). WritesOctets (header_octets h ++ m.asked.octets) old start) c.in_ok-header.ensures.0 c.in_ok-emit_front.ensures.ok in
    let optioned = subst (λ (o : Option Edns). Emitted EmitsEdns behind (option_to_list o) last) c.edns.ensures c.in_ok-emit_any.ensures.ok in
    IfErr-weaker c.emit_any-2.result _ _ (λ e among.
    inr (not_whole m old e c.in_ok-header.ensures.1
    (no_signature start behind last front c.in_ok-emit_records.ensures.ok optioned
    (subst (λ (o : Option TsigRecord). RefusesAmong EmitsTsigRecord (λ signature at. RefusesTsigRecord signature at e) last (option_to_list o)) c.signature.ensures among))))
    c.emit_any-2.ensures.cause
