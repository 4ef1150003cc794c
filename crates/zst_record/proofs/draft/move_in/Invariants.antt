use Rattle.zst_record.proofs.Moving.{Moved}
use Rattle.zst_record.proofs.draft.move_in.Given as goal

abbrev pub invariant-places : goal.invariant-places
invariant-places g l = Moved l.places l.initial.items l.initial.stored l.at l.items l.stored
