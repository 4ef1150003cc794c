use Rattle.std.proofs.Common.{◌≡◌, ◌-◌, length}
use Rattle.drd_opt.specs.Reading.{HasRead}
use Rattle.drd_opt.proofs.read.entries_of.Given as goal

abbrev pub invariant-options : goal.invariant-options
invariant-options l = record {
  same : l.decoder.octets ≡ l.octets;
  known : HasRead l.octets l.decoder.index l.entries.items;
}

abbrev pub decreases-options : goal.decreases-options
decreases-options l = length l.octets - l.decoder.index
