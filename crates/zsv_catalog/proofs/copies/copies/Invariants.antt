use Rattle.std.proofs.Common.{take}
use Rattle.zsv_catalog.specs.Requests.{AreCopies}
use Rattle.zsv_catalog.proofs.copies.copies.Given as goal

abbrev pub invariant-loop-record : goal.invariant-loop-record
invariant-loop-record l = record { copied : AreCopies (take l.record-index l.records) l.copies.items }
