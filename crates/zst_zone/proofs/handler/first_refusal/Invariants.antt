use Rattle.std.proofs.Common.{◌≡◌}
use Rattle.zst_zone.specs.Makings.{first_refusal}
use Rattle.zst_zone.proofs.handler.first_refusal.Given as goal

abbrev pub invariant-loop-at : goal.invariant-loop-at
invariant-loop-at l = first_refusal l.at-iterator ≡ first_refusal l.records.entries
