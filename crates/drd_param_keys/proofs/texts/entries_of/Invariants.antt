use Rattle.std.proofs.Common.{length}
use Rattle.drd_param_keys.proofs.Commas.{Ahead, parts_left}
use Rattle.drd_param_keys.proofs.texts.entries_of.Given as goal

abbrev pub invariant-entries : goal.invariant-entries
invariant-entries g l = Ahead g.T.Entry.written l.text l.entries.items l.rest

abbrev pub decreases-entries : goal.decreases-entries
decreases-entries g l = length (parts_left l.rest)
