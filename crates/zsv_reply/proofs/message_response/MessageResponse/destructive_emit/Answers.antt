use Rattle.std.proofs.Common.{◌≡◌, ℕ, ◌+◌, ◌∙◌, ◌||◌, List, length, inl, arith, subst, sym}
use Rattle.std.specs.List.{AllByRecursion}
use Rattle.std.specs.Prelude.{Option, option_copied, option_to_list}
use Rattle.zsv_request.specs.zsv_message.zst_record.dnw_encoder.Encoders.{state}
use Rattle.zsv_request.proofs.zsv_message_lemmas.zst_record_lemmas.dnw_encoder_lemmas.PlaceLaws.{opens_open}
use Rattle.zsv_request.specs.zsv_message.zst_record.Records.{IsServable}
use Rattle.zsv_request.specs.zsv_message.zst_record.declared.records.Record.{Record}
use Rattle.zsv_request.specs.zsv_message.zst_record.dnw_encoder.Effects.{Fills}
use Rattle.zsv_request.specs.zsv_message.zst_edns.declared.edns.Edns.{Edns}
use Rattle.zsv_request.specs.zsv_message.zst_edns.Writing.{EdnsReadsBack}
use Rattle.zsv_request.specs.zsv_message.zsv_parts.declared.tsig.TsigRecord.{TsigRecord}
use Rattle.zsv_request.specs.zsv_message.zsv_parts.Headers.{FitsOpCode, header_octets}
use Rattle.zsv_request.specs.zsv_message.zsv_parts.SignatureRecords.{TsigReadsBack}
use Rattle.zsv_request.specs.zsv_message.zst_record.Records.{plain}
use Rattle.zsv_reply.specs.Replies.{ReplyRecordAt, header_of_reply}
use Rattle.zsv_reply.specs.Writing.{EmitsAdditionals, EmitsFront, lets_point}
use Rattle.zsv_reply.proofs.Asking.{leads_first}
use Rattle.zsv_reply.proofs.FrontLaws.{in_full_then}
use Rattle.zsv_reply.proofs.Sections.{Steps, first_back, header_refused, if_passed_on, later_back, stays_open, steps_emit}
use Rattle.zsv_reply.proofs.message_response.MessageResponse.destructive_emit.Goals as goal

pub replace-requires-clause-is_open : goal.replace-requires-clause-is_open
replace-requires-clause-is_open g c =
    let opens = c.in_ok-place.ensures.ok in
    let start = c.in_ok-place.place.start in
    let opened = state c.place.new.self in
    let asked = state c.emit_questions.new.encoder in
    let answered = state c.emit_front.new.encoder in
    let vouched = state c.emit_section.new.encoder in
    let told = state c.emit_additionals.new.encoder in
    let asks = c.in_ok-emit_questions.ensures.writes in
    let answers = c.in_ok-answers.ensures.writes in
    let authorities = c.in_ok-authorities.ensures.writes in
    let one = stays_open start 12 opened asked asks (omega (arith, opens.at, opens.offset)) (opens_open start 12 (state c.args.encoder.now) opened opens) in
    let two = stays_open start 12 asked answered answers (omega (arith, opens.at, opens.offset, asks.forward)) one in
    let three = stays_open start 12 answered vouched authorities (omega (arith, opens.at, opens.offset, asks.forward, answers.forward)) two in
    stays_open start 12 vouched told c.in_ok-additionals.ensures.writes (omega (arith, opens.at, opens.offset, asks.forward, answers.forward, authorities.forward)) three

pub returns-in_err-answers-clause-cause : goal.returns-in_err-answers-clause-cause
returns-in_err-answers-clause-cause g c = if_passed_on _ c.from_residual-in_err-answers.result c.in_err-answers.field-0.0 c.from_residual-in_err-answers.ensures.1 (λ parts holds alone.
    inl (c.in_err-answers.ensures.cause parts.answers holds.answers alone.answers))

pub returns-in_err-authorities-clause-cause : goal.returns-in_err-authorities-clause-cause
returns-in_err-authorities-clause-cause g c = if_passed_on _ c.from_residual-in_err-authorities.result c.in_err-authorities.field-0.0 c.from_residual-in_err-authorities.ensures.1 (λ parts holds alone.
    let both = subst (λ (rs : List Record). AllByRecursion IsServable rs) holds.section alone.authorities in
    inl (c.in_err-authorities.ensures.cause holds.above holds.behind holds.authorities holds.soa (first_back holds.above holds.behind both) (later_back holds.above holds.behind both)))

pub returns-in_err-replace-clause-cause : goal.returns-in_err-replace-clause-cause
returns-in_err-replace-clause-cause g c = if_passed_on _ c.from_residual-in_err-replace.result c.in_err-replace.field-0.0 c.from_residual-in_err-replace.ensures.1 (λ parts holds alone.
    let opens = c.in_ok-place.ensures.ok in
    let same : (state c.emit_additionals.new.encoder).maximum ≡ (state c.args.encoder.now).maximum
    = omega (arith, c.in_ok-additionals.ensures.writes.modes.maximum, c.in_ok-authorities.ensures.writes.modes.maximum, c.in_ok-answers.ensures.writes.modes.maximum, c.in_ok-emit_questions.ensures.writes.modes.maximum, opens.modes.maximum) in
    header_refused (state c.emit_additionals.new.encoder) c.in_ok-place.place.start (state c.args.encoder.now).maximum ((state c.args.encoder.now).offset + (12 + length c.args.self.queries.now.octets)) c.in_err-replace.field-0.0
    (opens.at ∙ c.requires.front) same (omega (arith, c.in_ok-place.ensures.fits, c.requires.front)) c.in_err-replace.ensures.cause.1.1)

pub returns-clause-ok : goal.returns-clause-ok
returns-clause-ok g c parts holds alone =
    let opens = c.in_ok-place.ensures.ok in
    let opened = state c.place.new.self in
    let asked = state c.emit_questions.new.encoder in
    let answered = state c.emit_front.new.encoder in
    let vouched = state c.emit_section.new.encoder in
    let told = state c.emit_additionals.new.encoder in
    let filled = state c.replace.new.encoder in
    let questions = c.args.self.queries.now in
    let front : c.in_ok-place.place.start ≡ 0 = opens.at ∙ c.requires.front in
    let header = c.header_over-header.result in
    let answers = c.in_ok-answers.answers in
    let authorities = c.in_ok-authorities.authorities in
    let additionals = c.in_ok-additionals.additionals in
    let both = subst (λ (rs : List Record). AllByRecursion IsServable rs) holds.section alone.authorities in
    let options_back = subst (λ (e : Option Edns). AllByRecursion EdnsReadsBack (option_to_list e)) holds.edns alone.edns in
    let signature_back = subst (λ (s : Option TsigRecord). AllByRecursion TsigReadsBack (option_to_list s)) holds.signature alone.signature in
    let points = lets_point (state c.args.encoder.now) questions in
    let leads = leads_first questions c.in_ok-place.place.start (state c.args.encoder.now) opened asked opens c.requires.front (in_full_then (state c.args.encoder.now) opened c.requires.in_full c.in_ok-place.ensures.writes) c.requires.small c.in_ok-emit_questions.ensures.writes c.in_ok-emit_questions.ensures.ok in
    let one = c.in_ok-answers.ensures.ok points asked.offset leads parts.answers holds.answers alone.answers in
    let two = c.in_ok-authorities.ensures.ok points asked.offset one.1 holds.above holds.behind holds.authorities holds.soa (first_back holds.above holds.behind both) (later_back holds.above holds.behind both) in
    let steps : Steps points header parts answers authorities additionals questions.octets (length questions.questions) opened asked answered vouched told filled = record {
      sound = c.in_ok-place.ensures.writes.sound c.requires.in_full.sound;
      twelve = omega (arith, opens.offset, c.requires.front);
      question = c.in_ok-emit_questions.ensures.ok.stays;
      question_offset = c.in_ok-emit_questions.ensures.ok.offset;
      asks = c.in_ok-emit_questions.ensures.writes;
      answers_front = one.0;
      answers_writes = c.in_ok-answers.ensures.writes;
      authorities_front = subst (λ (rs : List Record). EmitsFront (ReplyRecordAt points asked.offset) plain rs authorities answered vouched) (sym holds.section) two.0;
      authorities_writes = c.in_ok-authorities.ensures.writes;
      additionals_front = subst (λ (s : Option TsigRecord). EmitsAdditionals points asked.offset parts.additionals parts.edns s additionals vouched told) (sym holds.signature)
          (subst (λ (e : Option Edns). EmitsAdditionals points asked.offset parts.additionals e (option_copied c.args.self.signature) additionals vouched told) (sym holds.edns)
          (c.in_ok-additionals.ensures.ok points asked.offset two.1 parts.additionals holds.additionals alone.additionals options_back signature_back));
      additionals_writes = c.in_ok-additionals.ensures.writes;
      header = subst (λ (p : ℕ). Fills p (header_octets header) told filled) front c.in_ok-replace.ensures.ok;
      back = λ fits. c.header_over-header.ensures.back (subst FitsOpCode holds.metadata fits);
      says = c.header_over-header.ensures.value
          ∙ (λ i. header_of_reply (sym holds.metadata i) (answers.is_cut || authorities.is_cut || additionals.is_cut) (c.len-count.ensures.value i) answers.count authorities.count additionals.count);
    } in
    steps_emit points header parts answers authorities additionals questions opened asked answered vouched told filled (state c.args.encoder.now).maximum steps opens.modes.maximum
    (omega (arith, c.in_ok-emit_questions.ensures.fits, opens.offset, opens.modes.maximum, c.requires.front)) c.from.result c.from.ensures
