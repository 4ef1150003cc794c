use Rattle.zst_draft.proofs.Loops.{DeletesFirst}
use Rattle.zst_draft.proofs.owner.OwnerDraft.delete.Given as goal

abbrev pub invariant-loop-at : goal.invariant-loop-at
invariant-loop-at l = DeletesFirst l.at_apex l.change l.initial.self.sets.items l.at l.self.sets.items l.changed
