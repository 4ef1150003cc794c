use Rattle.std.proofs.Common.{◌∙◌, ap, sym}
use Rattle.std.specs.BTreeMap.{get}
use Rattle.dnw_name.specs.DomainName.{name_cmp}
use Rattle.zst_key.specs.Ancestors.{nearest_in}
use Rattle.zst_key.proofs.NamesAbove.{nearest-here}
use Rattle.zst_key.proofs.above.nearest_above.Goals as goal

pub returns-in-Some : goal.returns-in-Some
returns-in-Some g c =
    let at = get name_cmp c.args.names.now in
    sym (ap (nearest_in at) (c.is_child_of.ensures.0 c.if-is_child_of.true) ∙ nearest-here at c.in-Some.owner.now c.in-Some.value.now c.in-Some.ensures.value)
