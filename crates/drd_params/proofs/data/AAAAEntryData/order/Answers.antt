use Rattle.std.proofs.Common.{rules}
use Rattle.drd_params.specs.EntryLaws.{aaaa_fronts}
use Rattle.drd_params.proofs.data.AAAAEntryData.order.Goals as goal

pub returns : goal.returns
returns c = aaaa_fronts c.args.self.now c.args.other.now c.cmp.result (search rules)
