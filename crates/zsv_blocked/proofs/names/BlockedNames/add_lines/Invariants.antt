use Rattle.std.proofs.Common.{length, take}
use Rattle.std.specs.Str.Lines.{lines}
use Rattle.zsv_blocked.specs.BlockedNames.{AddsLines}
use Rattle.zsv_blocked.proofs.names.BlockedNames.add_lines.Given as goal

abbrev pub invariant-loop-line : goal.invariant-loop-line
invariant-loop-line l = AddsLines l.initial.self (take (length l.yielded) (lines l.text)) l.self
