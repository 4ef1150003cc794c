use Rattle.std.proofs.Common.{◌≡◌, ◌+◌, ◌≤◌, ◌++◌, take}
use Rattle.std.specs.Prelude.{vec_len, vec_capacity}
use Rattle.std.specs.Str.{str_to_ascii_lowercase}
use Rattle.dnw_encoder.proofs.name.append_lower.Given as goal

abbrev pub invariant-octets : goal.invariant-octets
invariant-octets l = record {
  items : l.buffer.items ≡ l.initial.buffer.items ++ str_to_ascii_lowercase (take l.i l.octets);
  len : vec_len l.buffer ≡ vec_len l.initial.buffer + l.i;
  capacity : vec_capacity l.initial.buffer ≤ vec_capacity l.buffer;
}
