use Rattle.std.proofs.Common.{take}
use Rattle.zst_denial.specs.Denials.{Lacks, SomeOf}
use Rattle.authority_denial.proofs.checking.some_lacks.Given as goal

abbrev pub invariant-loop-stored : goal.invariant-loop-stored
invariant-loop-stored l = SomeOf (Lacks l.name l.record_type) (take l.stored-index l.records) → ⊥
