use Rattle.std.proofs.Common.{take}
use Rattle.dnw_encoder.specs.Starts.{AreMarked, StaysMarked}
use Rattle.dnw_encoder.proofs.starts.Starts.mark_each.Given as goal

abbrev pub invariant-entries : goal.invariant-entries
invariant-entries l = AreMarked l.self.marks l.octets (take l.entry-index l.entries) × StaysMarked l.initial.self.marks l.self.marks
