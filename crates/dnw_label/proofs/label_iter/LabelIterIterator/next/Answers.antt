use Rattle.std.proofs.Common.{◌∙◌, length, sym, ap, arith}
use Rattle.dnw_label.proofs.LabelsLemmas.{behind-first}
use Rattle.dnw_label.proofs.label_iter.LabelIterIterator.next.Goals as goal

pub invariant_of-self : goal.invariant_of-self
invariant_of-self c =
    let here = behind-first c.self.inside.octets.now c.self.inside.lengths.now c.in_ok-length.length.now c.in_ok-length.lengths.now c.in_ok-length.ensures.cases.0 c.self.invariant in
    rw (c.split_at-2.ensures.back, c.split_at.ensures.back, c.from.ensures) here.holds

pub returns-clause-steps : goal.returns-clause-steps
returns-clause-steps c =
    let here = behind-first c.self.inside.octets.now c.self.inside.lengths.now c.in_ok-length.length.now c.in_ok-length.lengths.now c.in_ok-length.ensures.cases.0 c.self.invariant in
    rw (c.split_at-2.ensures.front, c.split_at-2.ensures.back, c.split_at.ensures.back, c.from.ensures) (sym c.self.view_is ∙ here.first)

pub returns-clause-goes : goal.returns-clause-goes
returns-clause-goes c =
    let steps = returns-clause-steps c in
    record { on = λ h. (tt, tt, omega (arith, ap length steps)); keeps = tt; rests = λ h. tt }
