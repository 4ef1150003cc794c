use Rattle.std.proofs.Common.{◌∙◌}
use Rattle.zsv_sqlite.proofs.Gathered.{groups_met_as}
use Rattle.zsv_sqlite.proofs.groups.are_met.Goals as goal

pub returns : goal.returns
returns c = λ rs gathers. c.are_all_met.ensures ∙ groups_met_as c.args.zone.now.sets rs c.args.groups.now c.len-count.ensures.ordered gathers
