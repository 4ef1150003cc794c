use Rattle.zst_map.proofs.Kept.{none_kept}
use Rattle.zst_map.proofs.map.ZoneMap.new.Goals as goal

pub invariant_of-result : goal.invariant_of-result
invariant_of-result c = none_kept _ _ c.new.ensures.empty c.new-2.ensures.empty
