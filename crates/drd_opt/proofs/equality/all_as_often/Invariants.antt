use Rattle.std.proofs.Common.{◌≡◌, ◌==◌, drop, map}
use Rattle.std.specs.List.{count_by, list_all}
use Rattle.drd_opt.specs.Entries.{raw_of}
use Rattle.drd_opt.specs.Equality.{same_raw}
use Rattle.drd_opt.proofs.equality.all_as_often.Given as goal

abbrev pub invariant-entries : goal.invariant-entries
invariant-entries l =
    list_all (λ x. count_by (same_raw x) (map raw_of l.entries) == count_by (same_raw x) (map raw_of l.others)) (map raw_of l.entries)
    ≡ list_all (λ x. count_by (same_raw x) (map raw_of l.entries) == count_by (same_raw x) (map raw_of l.others)) (map raw_of (drop l.entry-index l.entries))
