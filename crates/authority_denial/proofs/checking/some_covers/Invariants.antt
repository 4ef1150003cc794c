use Rattle.std.proofs.Common.{take}
use Rattle.zst_denial.specs.Denials.{Covers, SomeOf}
use Rattle.authority_denial.proofs.checking.some_covers.Given as goal

abbrev pub invariant-loop-stored : goal.invariant-loop-stored
invariant-loop-stored l = SomeOf (Covers l.name) (take l.stored-index l.records) → ⊥
