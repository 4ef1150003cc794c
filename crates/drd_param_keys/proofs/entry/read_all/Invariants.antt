use Rattle.std.proofs.Common.{◌≡◌, ◌++◌, All, length}
use Rattle.std.specs.List.{flat_map}
use Rattle.drd_param_keys.proofs.Entries.{Ahead}
use Rattle.drd_param_keys.proofs.entry.read_all.Given as goal

abbrev pub invariant-entries : goal.invariant-entries
invariant-entries g l = record {
  front : flat_map g.T.Entry.spelled l.found.items ++ l.left ≡ l.initial.left;
  valid : All g.T.Entry.valid l.found.items;
  ahead : Ahead g.T.Entry.spelled l.initial.left l.left;
}

abbrev pub decreases-entries : goal.decreases-entries
decreases-entries g l = length l.left
