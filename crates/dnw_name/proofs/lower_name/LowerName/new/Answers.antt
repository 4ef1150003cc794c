use Rattle.dnw_name.proofs.Orders.{lowercased-lowercased}
use Rattle.dnw_name.proofs.lower_name.LowerName.new.Goals as goal

pub invariant_of-result : goal.invariant_of-result
invariant_of-result c = rw c.in_ok-to_lowercase.ensures (lowercased-lowercased c.args.name.now)
