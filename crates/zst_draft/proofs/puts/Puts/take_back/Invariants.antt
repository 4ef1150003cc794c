use Rattle.std.proofs.Common.{length, reverse}
use Rattle.zst_map.specs.zst_handler.Zones.{Zone}
use Rattle.zst_draft.specs.Settling.{Returns}
use Rattle.zst_draft.proofs.puts.Puts.take_back.Given as goal

abbrev pub invariant-sets : goal.invariant-sets
invariant-sets l = (start : Zone) → Returns start (reverse l.fn.self.done.items) l.initial.zone → Returns start (reverse l.left.items) l.zone

abbrev pub decreases-sets : goal.decreases-sets
decreases-sets l = length l.left.items
