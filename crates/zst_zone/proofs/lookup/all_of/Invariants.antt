use Rattle.std.proofs.Common.{◌≡◌, ◌≤◌, take, map, length, vec_len, vec_capacity}
use Rattle.zst_circle.specs.zst_handler.Answers.{set_in}
use Rattle.zst_zone.proofs.lookup.all_of.Given as goal

abbrev pub invariant-loop-set : goal.invariant-loop-set
invariant-loop-set l = record {
  lent : map set_in l.lent.items ≡ take l.set-index l.sets;
  len : vec_len l.lent ≡ l.set-index;
  room : length l.sets ≤ vec_capacity l.lent;
}
