use Rattle.std.proofs.Common.{take}
use Rattle.zst_draft.specs.OwnerDrafts.{AreAsStored}
use Rattle.zst_draft.proofs.owner.OwnerDraft.over.Given as goal

abbrev pub invariant-loop-set : goal.invariant-loop-set
invariant-loop-set l = AreAsStored (take l.set-index l.set-items) l.drafts.items
