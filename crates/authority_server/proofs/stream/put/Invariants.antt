use Rattle.std.proofs.Common.{◌≤◌, ◌-◌, length, take}
use Rattle.std.specs.Io.KnownBytes.{Appends}
use Rattle.authority_server.specs.Faults.{NoneFailed}
use Rattle.authority_server.proofs.stream.put.Given as goal

abbrev pub invariant-writing : goal.invariant-writing
invariant-writing g l = record {
  within : l.at ≤ length l.octets;
  well : NoneFailed l.faults;
  written : Appends (g.W.Write.contents l.initial.writer) (g.W.Write.contents l.writer) (take l.at l.octets);
}

abbrev pub decreases-writing : goal.decreases-writing
decreases-writing g l = length l.octets - l.at
