use Rattle.std.proofs.Common.{◌≡◌, length, reverse}
use Rattle.zst_map.specs.zst_handler.Zones.{Zone}
use Rattle.zst_draft.specs.Settling.{Returns}
use Rattle.zst_draft.proofs.Loops.{PutsFirst}
use Rattle.zst_draft.proofs.commit.put_owner.Given as goal

abbrev pub invariant-loop-at : goal.invariant-loop-at
invariant-loop-at l = record {
  puts : PutsFirst l.initial.zone l.key l.initial.owner.sets.items l.at l.zone l.owner.sets.items;
  long : length l.owner.sets.items ≡ length l.initial.owner.sets.items;
  back : (start : Zone) → Returns start (reverse l.initial.puts.done.items) l.initial.zone → Returns start (reverse l.puts.done.items) l.zone;
}
