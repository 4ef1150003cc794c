use Rattle.std.proofs.Common.{map, take, option_map}
use Rattle.drd_opt.specs.Entries.{raw_of}
use Rattle.drd_opt.specs.Order.{IsLeastMore}
use Rattle.drd_opt.proofs.order.least_more.Given as goal

abbrev pub invariant-among : goal.invariant-among
invariant-among l =
    IsLeastMore (map raw_of (take l.entry-index l.among)) (map raw_of l.entries) (map raw_of l.others) (option_map (λ least. raw_of least.now) l.least)
