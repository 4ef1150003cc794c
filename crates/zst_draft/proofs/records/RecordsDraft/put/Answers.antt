use Rattle.std.proofs.Common.{◌∙◌, sym}
use Rattle.std.specs.Prelude.{Some}
use Rattle.zst_map.proofs.PutRecords.{put_record_found, put_record_missed}
use Rattle.zst_draft.specs.SetDrafts.{records_in}
use Rattle.zst_draft.proofs.DraftedRecords.{is_put, on_ok, records_put}
use Rattle.zst_draft.proofs.records.RecordsDraft.put.Goals as goal

pub returns-in-Some-clause-draft : goal.returns-in-Some-clause-draft
returns-in-Some-clause-draft c = λ count is.
    is_put count c.args.self.now.len c.in-Some.at c.args.self.now.list c.set.new.self c.args.next c.set.ensures.places c.set.ensures.items is

pub returns-in-Some-clause-records : goal.returns-in-Some-clause-records
returns-in-Some-clause-records c = λ stored is place.
    records_put stored c.args.self.now.len c.in-Some.at c.args.self.now.list c.set.new.self c.args.next c.set.ensures.places c.set.ensures.items is
    ∙ put_record_found (records_in stored (Some c.args.self.now)) c.args.next c.in-Some.at (sym c.in-Some.is ∙ place)

pub returns-in-None-clause-records : goal.returns-in-None-clause-records
returns-in-None-clause-records c =
    on_ok c.push.result (λ pushed same. λ stored is place. pushed stored is ∙ put_record_missed (records_in stored (Some c.args.self.now)) c.args.next (sym c.in-None.is ∙ place))
    c.push.ensures.records c.push.ensures.records
