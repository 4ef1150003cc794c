use Rattle.std.proofs.Common.{false}
use Rattle.zsv_request.specs.zsv_message.zst_record.dnw_encoder.Encoders.{state}
use Rattle.zsv_request.specs.zsv_message.zst_record.Records.{IsServable, plain}
use Rattle.zsv_request.specs.zsv_message.zst_record.Writing.{EmitsRecord, RefusesRecord}
use Rattle.zsv_reply.specs.Replies.{ReplyRecordAt}
use Rattle.zsv_reply.specs.Writing.{LeadsRecords}
use Rattle.zsv_reply.proofs.FrontLaws.{front_kept, front_refused}
use Rattle.zsv_reply.proofs.OptRecords.{leads_nowhere, records_stand}
use Rattle.zsv_reply.proofs.Sections.{leads_all}
use Rattle.zsv_reply.proofs.fronts.emit_front.Goals as goal

pub returns-clause-ok : goal.returns-clause-ok
returns-clause-ok g c =
    let old = state c.args.encoder.now in
    leads_all _ old c.kept_of.result (λ points first leads.
    front_kept (LeadsRecords points first) (ReplyRecordAt points first) plain IsServable EmitsRecord RefusesRecord (records_stand points first) g.I.Iterator.next_gives g.I.Item.LendsRecord.lent _ _ g.met.I.Item.LendsRecord.emits_lent g.met.I.Item.LendsRecord.refuses_lent c.args.records old (state c.emit_all.new.self) c.emit_all.result leads c.emit_all.ensures.ok c.emit_all.ensures.stopped c.kept_of.result c.kept_of.ensures.ok)

pub returns-clause-cause : goal.returns-clause-cause
returns-clause-cause g c =
    let old = state c.args.encoder.now in
    front_refused (LeadsRecords false 0) (ReplyRecordAt false 0) plain IsServable EmitsRecord RefusesRecord (records_stand false 0) g.I.Iterator.next_gives g.I.Item.LendsRecord.lent _ _ g.met.I.Item.LendsRecord.emits_lent g.met.I.Item.LendsRecord.refuses_lent c.args.records old (state c.emit_all.new.self) c.emit_all.result (leads_nowhere old c.requires.in_full c.requires.small) c.emit_all.ensures.ok c.emit_all.ensures.stopped c.kept_of.result c.kept_of.ensures.cause
