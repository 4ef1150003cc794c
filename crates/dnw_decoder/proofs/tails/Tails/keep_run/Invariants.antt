use Rattle.std.proofs.Common.{◌≡◌, ◌-◌}
use Rattle.dnw_decoder.specs.Tails.{IsTail, AreTails}
use Rattle.dnw_decoder.proofs.tails.Tails.keep_run.Given as goal

abbrev pub invariant-labels : goal.invariant-labels
invariant-labels l =
    IsTail l.octets l.self.names.items l.place l.tail × AreTails l.octets l.self × (l.self.names ≡ l.initial.self.names)
    × (l.tail ≡ record l.initial.tail { labels = l.tail.labels })

abbrev pub decreases-labels : goal.decreases-labels
decreases-labels l = l.end - l.place
