use Rattle.std.proofs.Common.{sym, option_map}
use Rattle.std.proofs.lemmas.List.{take_rest}
use Rattle.drd_opt.specs.Entries.{raw_of}
use Rattle.drd_opt.proofs.OrderLemmas.{least_of_all}
use Rattle.drd_opt.proofs.order.cmp_entries.Goals as goal

pub decide-requires-clause-more : goal.decide-requires-clause-more
decide-requires-clause-more c =
    least_of_all c.common_front-front.result c.args.entries.now c.args.others.now (option_map (λ least. raw_of least.now) c.least_more-more.result) c.common_front-front.ensures.same (rw (take_rest c.args.entries.now c.common_front-front.result) at c.least_more-more.ensures)

pub decide-requires-clause-less : goal.decide-requires-clause-less
decide-requires-clause-less c =
    least_of_all c.common_front-front.result c.args.others.now c.args.entries.now (option_map (λ least. raw_of least.now) c.least_more-less.result) (sym c.common_front-front.ensures.same) (rw (take_rest c.args.others.now c.common_front-front.result) at c.least_more-less.ensures)
