use Rattle.std.proofs.Common.{◌≡◌, length}
use Rattle.std.specs.Prelude.{◌++◌}
use Rattle.zst_handler.specs.Stores.{sets_in}
use Rattle.zst_handler.proofs.lent_sets.ZoneSetsIterIterator.next.Given as goal

abbrev pub invariant-owners : goal.invariant-owners
invariant-owners l =
    l.self-inside.current.now ++ sets_in l.self-inside.nodes.now l.self-inside.owners
    ≡ l.initial.self-inside.current.now ++ sets_in l.initial.self-inside.nodes.now l.initial.self-inside.owners

abbrev pub decreases-owners : goal.decreases-owners
decreases-owners l = length l.self-inside.owners
