use Rattle.std.proofs.Common.{false, ◌+◌, ◌^◌, ◌≤◌, arith}
use Rattle.std.specs.Prelude.{option_copied, option_to_list}
use Rattle.zsv_request.specs.zsv_message.zst_record.dnw_encoder.Encoders.{state}
use Rattle.zsv_request.proofs.zsv_message_lemmas.zst_record_lemmas.dnw_encoder_lemmas.Laws.{writes_then}
use Rattle.zsv_reply.proofs.OptRecords.{leads_nowhere}
use Rattle.zsv_reply.proofs.Sections.{additionals_written, if_matched, if_not_matched, if_passed_on, options_few, records_few, signature_few}
use Rattle.zsv_reply.proofs.fronts.emit_additionals.Goals as goal

pub returns-clause-ok : goal.returns-clause-ok
returns-clause-ok g c = if_matched (λ e. 2 ^ 16 ≤ c.in_ok-both.both.count + c.in_ok-signed.signed.count) c.kept_together-2.result (λ kept together points first leads lent yields all options signs.
    additionals_written points first lent (option_copied c.args.edns) (option_copied c.args.signature) c.in_ok-kept.kept c.in_ok-options.options c.in_ok-signed.signed c.in_ok-both.both kept
    (state c.args.encoder.now) (state c.emit_front.new.encoder) (state c.emit_edns.new.encoder) (state c.emit_signature.new.encoder)
    (c.in_ok-kept.ensures.ok points first leads lent yields all).0 c.in_ok-kept.ensures.writes (c.in_ok-options.ensures.ok options) c.in_ok-options.ensures.writes (c.in_ok-signed.ensures.ok signs) c.in_ok-signed.ensures.writes
    c.in_ok-both.ensures together) c.kept_together-2.ensures

pub returns-clause-cause : goal.returns-clause-cause
returns-clause-cause g c = if_not_matched (λ kept. _) c.kept_together-2.result (λ e many lent yields all options signs.
    let one = records_few false 0 lent c.in_ok-kept.kept (state c.args.encoder.now) (state c.emit_front.new.encoder) (c.in_ok-kept.ensures.ok false 0 (leads_nowhere (state c.args.encoder.now) c.requires.in_full c.requires.small) lent yields all).0 in
    let two = options_few (option_to_list (option_copied c.args.edns)) c.in_ok-options.options (state c.emit_front.new.encoder) (state c.emit_edns.new.encoder) (c.in_ok-options.ensures.ok options) in
    let three = signature_few (option_to_list (option_copied c.args.signature)) c.in_ok-signed.signed (state c.emit_edns.new.encoder) (state c.emit_signature.new.encoder) (c.in_ok-signed.ensures.ok signs) in
    absurd (omega (arith, many, one, two, three, c.in_ok-both.ensures.0, c.requires.small, c.in_ok-kept.ensures.writes.modes.maximum, c.in_ok-options.ensures.writes.modes.maximum))) c.kept_together-2.ensures

pub returns-in_err-both-clause-cause : goal.returns-in_err-both-clause-cause
returns-in_err-both-clause-cause g c = if_passed_on _ c.from_residual-in_err-both.result c.in_err-both.field-0.0 c.from_residual-in_err-both.ensures.1 (λ lent yields all options signs.
    let one = records_few false 0 lent c.in_ok-kept.kept (state c.args.encoder.now) (state c.emit_front.new.encoder) (c.in_ok-kept.ensures.ok false 0 (leads_nowhere (state c.args.encoder.now) c.requires.in_full c.requires.small) lent yields all).0 in
    let two = options_few (option_to_list (option_copied c.args.edns)) c.in_ok-options.options (state c.emit_front.new.encoder) (state c.emit_edns.new.encoder) (c.in_ok-options.ensures.ok options) in
    absurd (omega (arith, c.in_err-both.ensures, one, two, c.requires.small, c.in_ok-kept.ensures.writes.modes.maximum)))

pub returns-in_err-options-clause-writes : goal.returns-in_err-options-clause-writes
returns-in_err-options-clause-writes g c = writes_then (state c.args.encoder.now) (state c.emit_front.new.encoder) (state c.emit_edns.new.encoder) c.emit_front.ensures.writes c.emit_edns.ensures.writes

pub returns-in_err-signed-clause-writes : goal.returns-in_err-signed-clause-writes
returns-in_err-signed-clause-writes g c =
    let old = state c.args.encoder.now in
    let mid = state c.emit_front.new.encoder in
    let later = state c.emit_edns.new.encoder in
    writes_then old later (state c.emit_signature.new.encoder) (writes_then old mid later c.emit_front.ensures.writes c.emit_edns.ensures.writes) c.emit_signature.ensures.writes

pub returns-in_err-both-clause-writes : goal.returns-in_err-both-clause-writes
returns-in_err-both-clause-writes g c =
    let old = state c.args.encoder.now in
    let mid = state c.emit_front.new.encoder in
    let later = state c.emit_edns.new.encoder in
    writes_then old later (state c.emit_signature.new.encoder) (writes_then old mid later c.emit_front.ensures.writes c.emit_edns.ensures.writes) c.emit_signature.ensures.writes

pub returns-clause-writes : goal.returns-clause-writes
returns-clause-writes g c =
    let old = state c.args.encoder.now in
    let mid = state c.emit_front.new.encoder in
    let later = state c.emit_edns.new.encoder in
    writes_then old later (state c.emit_signature.new.encoder) (writes_then old mid later c.emit_front.ensures.writes c.emit_edns.ensures.writes) c.emit_signature.ensures.writes
