use Rattle.std.proofs.Common.{◌≤◌, ◌-◌}
use Rattle.dnw_encoder.proofs.eights.same_at_ends.Given as goal

abbrev pub invariant-words : goal.invariant-words
invariant-words l = l.same ≤ l.half

abbrev pub decreases-words : goal.decreases-words
decreases-words l = l.half - l.same
