use Rattle.std.proofs.Common.{◌-◌, ◌≤◌, List, ℕ}
use Rattle.dnw_decoder.specs.Elements.{Run}
use Rattle.dnw_decoder.proofs.name.run_end.Given as goal

abbrev pub invariant-labels : goal.invariant-labels
invariant-labels l =
    ((labels : List (List ℕ)) × Run l.octets l.bound l.place labels l.end) × (l.place ≤ l.end) × (l.end ≤ l.most)

abbrev pub decreases-labels : goal.decreases-labels
decreases-labels l = l.bound - l.end
