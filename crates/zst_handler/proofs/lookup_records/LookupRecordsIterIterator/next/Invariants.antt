use Rattle.std.proofs.Common.{◌≡◌, ◌-◌, length}
use Rattle.zst_handler.specs.Answers.{left_over}
use Rattle.zst_handler.proofs.lookup_records.LookupRecordsIterIterator.next.Given as goal

abbrev pub invariant-sets : goal.invariant-sets
invariant-sets l =
    left_over l.self-inside.guise l.self-inside.current l.self-inside.options.dnssec_ok l.self-inside.sets.now l.self-inside.shown
    ≡ left_over l.initial.self-inside.guise l.initial.self-inside.current l.initial.self-inside.options.dnssec_ok l.initial.self-inside.sets.now l.initial.self-inside.shown

abbrev pub decreases-sets : goal.decreases-sets
decreases-sets l = length l.self-inside.sets.now - l.self-inside.shown
