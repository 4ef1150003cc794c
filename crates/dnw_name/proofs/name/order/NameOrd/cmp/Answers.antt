use Rattle.std.proofs.Common.{◌∙◌}
use Rattle.dnw_name.proofs.Orders.{name_cmp-by_octets}
use Rattle.dnw_name.proofs.name.order.NameOrd.cmp.Goals as goal

pub returns : goal.returns
returns c = c.cmp_with_f.ensures ∙ name_cmp-by_octets c.args.self.now c.args.other.now
