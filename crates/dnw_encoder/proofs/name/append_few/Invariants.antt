use Rattle.std.proofs.Common.{◌≡◌, ◌+◌, ◌≤◌, ◌++◌, take}
use Rattle.std.specs.Prelude.{vec_len, vec_capacity}
use Rattle.dnw_encoder.proofs.name.append_few.Given as goal

abbrev pub invariant-octets : goal.invariant-octets
invariant-octets l = record {
  items : l.buffer.items ≡ l.initial.buffer.items ++ take l.i l.octets;
  len : vec_len l.buffer ≡ vec_len l.initial.buffer + l.i;
  capacity : vec_capacity l.initial.buffer ≤ vec_capacity l.buffer;
}
