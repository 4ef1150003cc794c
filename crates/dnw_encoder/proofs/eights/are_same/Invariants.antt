use Rattle.std.proofs.Common.{◌-◌, ◌<◌, ◌+◌, ◌≡◌, length}
use Rattle.dnw_encoder.proofs.EightLaws.{AreAlike}
use Rattle.dnw_encoder.proofs.eights.are_same.Given as goal

abbrev pub invariant-words : goal.invariant-words
invariant-words l = (length l.octets ≡ length l.others) × (l.last + 8 ≡ length l.octets) × (l.at < l.last + 8) × AreAlike l.octets l.others l.at

abbrev pub decreases-words : goal.decreases-words
decreases-words l = l.last - l.at
