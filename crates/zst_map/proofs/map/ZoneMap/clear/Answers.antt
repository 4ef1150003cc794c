use Rattle.zst_map.proofs.Kept.{none_kept}
use Rattle.zst_map.proofs.map.ZoneMap.clear.Goals as goal

pub invariant_of-self : goal.invariant_of-self
invariant_of-self c = none_kept _ _ c.clear.ensures.empty c.clear-2.ensures.empty
