use Rattle.std.proofs.Common.{◌∙◌}
use Rattle.std.specs.Ordering.{nat_cmp}
use Rattle.std.specs.Char.{to_ascii_lowercase}
use Rattle.dnw_label.proofs.Orders.{slice_cmp-map}
use Rattle.dnw_label.proofs.label.LabelOrd.cmp.Goals as goal

pub returns : goal.returns
returns c = c.cmp_with_f.ensures ∙ slice_cmp-map to_ascii_lowercase nat_cmp c.args.self.now c.args.other.now
