use Rattle.std.proofs.Common.{◌≡◌, take, map}
use Rattle.std.specs.List.{count_by}
use Rattle.drd_opt.specs.Entries.{raw_of}
use Rattle.drd_opt.specs.Equality.{same_raw}
use Rattle.drd_opt.proofs.equality.count_of.Given as goal

abbrev pub invariant-entries : goal.invariant-entries
invariant-entries l = l.count ≡ count_by (same_raw (raw_of l.entry)) (map raw_of (take l.other-index l.entries))
