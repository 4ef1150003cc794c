use Rattle.zst_draft.proofs.DraftedRecords.{is_pushed, records_pushed}
use Rattle.std.proofs.Common.{◌+◌, refl}
use Rattle.zst_draft.proofs.records.RecordsDraft.push.Goals as goal

pub returns-clause-draft : goal.returns-clause-draft
returns-clause-draft c = λ count is.
    is_pushed count c.args.self.now.len (c.args.self.now.len + 1) c.args.self.now.list c.push.new.self c.args.next c.in_ok-push.ensures.places c.in_ok-push.ensures.items refl is

pub returns-clause-records : goal.returns-clause-records
returns-clause-records c = λ stored is.
    records_pushed stored c.args.self.now.len (c.args.self.now.len + 1) c.args.self.now.list c.push.new.self c.args.next c.in_ok-push.ensures.places c.in_ok-push.ensures.items is
