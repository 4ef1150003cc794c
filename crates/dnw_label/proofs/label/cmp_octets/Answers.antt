use Rattle.std.proofs.Common.{◌∙◌, sym, arith}
use Rattle.dnw_label.proofs.Orders.{slice_cmp-behind_shorter}
use Rattle.dnw_label.proofs.label.cmp_octets.Goals as goal

pub returns : goal.returns
returns g c = c.cmp.ensures ∙ sym (c.octets.invariant ∙ slice_cmp-behind_shorter _ _ _ c.octets.i (omega arith))
