use Rattle.dnw_name.proofs.Orders.{lowercased-lowercased}
use Rattle.dnw_name.proofs.lower_name.LowerNameFromName.from.Goals as goal

pub invariant_of-result : goal.invariant_of-result
invariant_of-result c = rw c.make_lowercase.ensures (lowercased-lowercased c.args.name)
