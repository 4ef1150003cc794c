use Rattle.std.proofs.Common.{◌≡◌, ◌≤◌, ◌-◌, length, take}
use Rattle.std.specs.Io.KnownBytes.{Consumes}
use Rattle.authority_server.specs.Faults.{no_faults}
use Rattle.authority_server.proofs.stream.fill.Given as goal

abbrev pub invariant-filling : goal.invariant-filling
invariant-filling g l = record {
  long : length l.buffer ≡ length l.initial.buffer;
  within : l.at ≤ length l.buffer;
  well : l.faults ≡ no_faults;
  consumed : Consumes (g.R.Read.remaining l.initial.reader) (g.R.Read.remaining l.reader) (take l.at l.buffer);
}

abbrev pub decreases-filling : goal.decreases-filling
decreases-filling g l = length l.initial.buffer - l.at
