use Rattle.std.proofs.Common.{◌≡◌, ◌+◌, ◌++◌, map, take}
use Rattle.smallvec.specs.SmallVec.{small_vec_len}
use Rattle.zst_key.specs.NameKeys.{rank}
use Rattle.zst_key.proofs.octets.push_label.Given as goal

abbrev pub invariant-octets : goal.invariant-octets
invariant-octets g l = record {
  items : l.octets.items ≡ l.initial.octets.items ++ map rank (take l.i l.rest);
  len : small_vec_len l.octets ≡ small_vec_len l.initial.octets + l.i;
  capacity : l.octets.capacity ≡ l.initial.octets.capacity;
}
