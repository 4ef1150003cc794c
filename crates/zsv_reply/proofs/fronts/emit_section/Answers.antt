use Rattle.std.proofs.Common.{false, ◌+◌, ◌^◌, ◌≤◌, arith}
use Rattle.zsv_request.specs.zsv_message.zst_record.Records.{plain}
use Rattle.zsv_request.specs.zsv_message.zst_record.dnw_encoder.Encoders.{state}
use Rattle.zsv_reply.specs.Replies.{ReplyRecordAt}
use Rattle.zsv_reply.proofs.FrontLaws.{emits_cut, emits_two}
use Rattle.zsv_reply.proofs.OptRecords.{leads_nowhere}
use Rattle.zsv_reply.proofs.Sections.{if_matched, if_not_matched, records_few}
use Rattle.zsv_reply.proofs.fronts.emit_section.Goals as goal

pub returns-then-kept-clause-ok : goal.returns-then-kept-clause-ok
returns-then-kept-clause-ok g c = λ points first leads lent more yields goes_on all others.
    let one = c.in_ok-kept.ensures.ok points first leads lent yields all in
    (emits_cut (ReplyRecordAt points first) plain lent more c.in_ok-kept.kept (state c.args.encoder.now) (state c.emit_front.new.encoder) c.if-kept.true one.0, one.1)

pub returns-clause-ok : goal.returns-clause-ok
returns-clause-ok g c = if_matched (λ e. 2 ^ 16 ≤ c.in_ok-kept.kept.count + c.in_ok-more.more.count) c.kept_together.result (λ kept together points first leads lent more yields goes_on all others.
    let one = c.in_ok-kept.ensures.ok points first leads lent yields all in
    let two = c.in_ok-more.ensures.ok points first one.1 more goes_on others in (
      emits_two (ReplyRecordAt points first) plain lent more c.in_ok-kept.kept c.in_ok-more.more kept (state c.args.encoder.now) (state c.emit_front.new.encoder) (state c.emit_front-2.new.encoder) c.if-kept.false
          one.0 c.in_ok-kept.ensures.writes two.0 c.in_ok-more.ensures.writes together.0 together.1,
      two.1,
    )) c.kept_together.ensures

pub returns-clause-cause : goal.returns-clause-cause
returns-clause-cause g c = if_not_matched (λ kept. _) c.kept_together.result (λ e many lent more yields goes_on all others.
    let old = state c.args.encoder.now in
    let mid = state c.emit_front.new.encoder in
    let first = c.in_ok-kept.ensures.ok false 0 (leads_nowhere old c.requires.in_full c.requires.small) lent yields all in
    let second = c.in_ok-more.ensures.ok false 0 first.1 more goes_on others in
    let one = records_few false 0 lent c.in_ok-kept.kept old mid first.0 in
    let two = records_few false 0 more c.in_ok-more.more mid (state c.emit_front-2.new.encoder) second.0 in
    absurd (omega (arith, many, one, two, c.requires.small, c.in_ok-kept.ensures.writes.modes.maximum))) c.kept_together.ensures
