use Rattle.std.proofs.Common.{length}
use Rattle.zst_draft.specs.SetDrafts.{records_of}
use Rattle.zst_draft.proofs.set.SetDraft.begun.Goals as goal

pub returns-clause-draft : goal.returns-clause-draft
returns-clause-draft c = λ stored. c.in_ok-records.ensures.draft (length (records_of stored))
