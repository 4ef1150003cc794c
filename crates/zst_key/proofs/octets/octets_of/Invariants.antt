use Rattle.std.proofs.Common.{◌≡◌, ◌+◌, ◌≤◌, ◌++◌, length}
use Rattle.smallvec.specs.SmallVec.{small_vec_len}
use Rattle.dnw_name.specs.DomainName.{labels_len}
use Rattle.zst_key.specs.NameKeys.{name_key, labels_key}
use Rattle.zst_key.proofs.octets.octets_of.Given as goal

abbrev pub invariant-labels : goal.invariant-labels
invariant-labels g l = record {
  rest : l.octets.items ++ labels_key l.labels ≡ name_key l.name;
  room : small_vec_len l.octets + labels_len l.labels ≤ l.octets.capacity;
}

abbrev pub decreases-labels : goal.decreases-labels
decreases-labels g l = length l.labels
