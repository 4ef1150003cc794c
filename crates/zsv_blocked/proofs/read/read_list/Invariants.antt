use Rattle.std.proofs.Common.{◌≡◌, ◌<◌, ◌^◌, ◌-◌, length, false, true}
use Rattle.std.specs.Io.KnownBytes.{Consumes}
use Rattle.zsv_blocked.proofs.read.read_list.Given as goal

abbrev pub invariant-reading : goal.invariant-reading
invariant-reading g l = record {
  read : Consumes (g.R.Read.remaining l.initial.reader) (g.R.Read.remaining l.reader) l.octets.items;
  few : length l.octets.items < 2 ^ 32;
  well : l.faults.failed ≡ false;
  given : 0 < length l.octets.items → l.faults.given ≡ true;
}

abbrev pub decreases-reading : goal.decreases-reading
decreases-reading g l = 2 ^ 32 - length l.octets.items
