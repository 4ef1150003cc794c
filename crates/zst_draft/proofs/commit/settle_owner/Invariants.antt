use Rattle.std.proofs.Common.{◌≡◌, length}
use Rattle.zst_draft.proofs.Loops.{SettlesFirst}
use Rattle.zst_draft.proofs.commit.settle_owner.Given as goal

abbrev pub invariant-loop-at : goal.invariant-loop-at
invariant-loop-at l = record {
  settles : SettlesFirst l.initial.zone l.key l.initial.owner.sets.items l.at l.zone l.owner.sets.items;
  long : length l.owner.sets.items ≡ length l.initial.owner.sets.items;
}
