use Rattle.std.proofs.Common.{subst, sym}
use Rattle.zst_draft.specs.SetDrafts.{IsSetDraft}
use Rattle.zst_draft.proofs.set.SetDraft.begin.Goals as goal

pub returns-clause-draft : goal.returns-clause-draft
returns-clause-draft c = λ stored. subst (IsSetDraft stored) (sym c.replace.ensures.after) (c.in_ok-draft.ensures.draft stored)
