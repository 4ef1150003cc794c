use Rattle.std.proofs.Common.{◌≡◌, ◌+◌, length}
use Rattle.drd_types.specs.drd_opt.Entries.{entries_octets}
use Rattle.zst_edns.proofs.emit.options_len.Given as goal

abbrev pub invariant-options : goal.invariant-options
invariant-options l = l.len + length (entries_octets l.left) ≡ length (entries_octets l.initial.left)

abbrev pub decreases-options : goal.decreases-options
decreases-options l = length l.left
