use Rattle.std.proofs.Common.{◌≡◌, map, rules}
use Rattle.drd_opt.specs.Entries.{raw_of}
use Rattle.drd_opt.specs.Equality.{same_counts}
use Rattle.drd_opt.specs.EqualityLaws.{permuted_exactly}
use Rattle.drd_opt.proofs.opt.OPTPartialEq.eq.Goals as goal

pub returns-clause-permutation : goal.returns-clause-permutation
returns-clause-permutation c =
    let xs = map raw_of c.args.self.now.options.items in
    let ys = map raw_of c.args.other.now.options.items in
    let value : c.are_same.result ≡ same_counts xs ys = search rules in
    permuted_exactly xs ys c.are_same.result value
