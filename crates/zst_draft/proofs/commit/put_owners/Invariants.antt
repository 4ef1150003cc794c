use Rattle.std.proofs.Common.{reverse}
use Rattle.zst_map.specs.zst_handler.Zones.{Zone}
use Rattle.zst_draft.specs.Settling.{Returns}
use Rattle.zst_draft.proofs.Loops.{PutsOwners}
use Rattle.zst_draft.proofs.commit.put_owners.Given as goal

abbrev pub invariant-owners : goal.invariant-owners
invariant-owners l = record {
  puts : PutsOwners l.initial.zone l.fn.owners.entries l.zone l.put.items l.key-iterator;
  back : (start : Zone) → Returns start (reverse l.initial.puts.done.items) l.initial.zone → Returns start (reverse l.puts.done.items) l.zone;
}
