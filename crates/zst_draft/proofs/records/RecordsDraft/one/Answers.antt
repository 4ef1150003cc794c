use Rattle.zst_draft.proofs.records.RecordsDraft.one.Goals as goal

pub push-requires : goal.push-requires
push-requires c = (c.new-draft.ensures.draft 0).len
