use Rattle.std.proofs.Common.{◌-◌, arith}
use Rattle.zst_draft.proofs.DraftedRecords.{is_removed, records_removed}
use Rattle.zst_draft.proofs.records.RecordsDraft.remove.Goals as goal

pub returns-clause-draft : goal.returns-clause-draft
returns-clause-draft c = λ count is.
    is_removed count c.args.self.now.len (c.args.self.now.len - 1) c.args.at c.args.self.now.list c.remove.new.self c.remove.ensures.places c.remove.ensures.items (omega (arith, c.requires.at)) c.requires.at is

pub returns-clause-records : goal.returns-clause-records
returns-clause-records c = λ stored is.
    records_removed stored c.args.self.now.len (c.args.self.now.len - 1) c.args.at c.args.self.now.list c.remove.new.self c.remove.ensures.places c.remove.ensures.items is
