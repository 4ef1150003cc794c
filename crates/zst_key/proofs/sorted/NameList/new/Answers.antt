use Rattle.zst_key.proofs.SortedNames.{none-sorted}
use Rattle.zst_key.proofs.sorted.NameList.new.Goals as goal

pub invariant_of-result : goal.invariant_of-result
invariant_of-result g c = none-sorted c.new.result.items c.new.ensures.items
