use Rattle.std.proofs.Common.{◌≡◌, ◌%◌, ◌^◌, take, map}
use Rattle.std.specs.List.{sum_by}
use Rattle.drd_opt.specs.Entries.{raw_of}
use Rattle.drd_opt.specs.Equality.{hash_number}
use Rattle.drd_opt.proofs.equality.sum_of_weights.Given as goal

abbrev pub invariant-entries : goal.invariant-entries
invariant-entries l = l.sum ≡ sum_by hash_number (map raw_of (take l.entry-index l.entries)) % 2 ^ 64
