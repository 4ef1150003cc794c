use Rattle.std.proofs.Common.{◌≡◌, ◌+◌, ◌-◌, ◌*◌}
use Rattle.dnw_decoder.specs.Chains.{AreChains}
use Rattle.dnw_decoder.proofs.Progress.{IsWalking}
use Rattle.dnw_decoder.proofs.name.spelled_name.Given as goal

abbrev pub invariant-elements : goal.invariant-elements
invariant-elements l =
    IsWalking l.octets l.start l.name l.len l.segment l.bound l.place l.run l.resume × AreChains l.octets l.pointers.chains
    × (l.pointers.tails ≡ l.initial.pointers.tails)

abbrev pub decreases-elements : goal.decreases-elements
decreases-elements l = 256 * l.segment + (256 - l.len)
