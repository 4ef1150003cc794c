use Rattle.drd_opt.specs.Readable.{StandsSomewhere}
use Rattle.drd_opt.proofs.ReadableLaws.{LeftFrom}
use Rattle.drd_opt.proofs.readable.are_entries.Given as goal

abbrev pub invariant-entries : goal.invariant-entries
invariant-entries l = LeftFrom StandsSomewhere l.entries l.entry-index
