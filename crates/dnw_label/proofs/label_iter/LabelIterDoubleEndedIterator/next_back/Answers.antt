use Rattle.std.proofs.Common.{◌∙◌, sym, arith}
use Rattle.dnw_label.proofs.LabelsLemmas.{before-last, shorter, shorter-front}
use Rattle.dnw_label.proofs.label_iter.LabelIterDoubleEndedIterator.next_back.Goals as goal

pub overflow_sub-self-inside : goal.overflow_sub-self-inside
overflow_sub-self-inside c =
    let here = before-last c.self.inside.octets.now c.self.inside.lengths.now c.in_ok-length.length.now c.in_ok-length.lengths.now c.in_ok-length.ensures.cases.0 c.self.invariant in
    omega (arith, here.fits, c.from.ensures)

pub slice_bounds-self-count : goal.slice_bounds-self-count
slice_bounds-self-count c =
    let here = before-last c.self.inside.octets.now c.self.inside.lengths.now c.in_ok-length.length.now c.in_ok-length.lengths.now c.in_ok-length.ensures.cases.0 c.self.invariant in
    omega (arith, here.fits, c.from.ensures, c.split_at.ensures.front_len)

pub invariant_of-self : goal.invariant_of-self
invariant_of-self c =
    let here = before-last c.self.inside.octets.now c.self.inside.lengths.now c.in_ok-length.length.now c.in_ok-length.lengths.now c.in_ok-length.ensures.cases.0 c.self.invariant in
    let front = shorter-front c.self.inside.octets.now c.split_at.result.0.now c.from.result c.in_ok-length.length.now c.from.ensures c.split_at.ensures.front here.fits in
    rw front here.holds

pub returns-clause-steps : goal.returns-clause-steps
returns-clause-steps c =
    let here = before-last c.self.inside.octets.now c.self.inside.lengths.now c.in_ok-length.length.now c.in_ok-length.lengths.now c.in_ok-length.ensures.cases.0 c.self.invariant in
    let front = shorter-front c.self.inside.octets.now c.split_at.result.0.now c.from.result c.in_ok-length.length.now c.from.ensures c.split_at.ensures.front here.fits in
    rw (front, c.split_at.ensures.back, c.from.ensures) (sym c.self.view_is ∙ here.last)

pub returns-clause-goes : goal.returns-clause-goes
returns-clause-goes c =
    let steps = returns-clause-steps c in
    record { on = λ h. (tt, tt, shorter _ _ _ steps); keeps = tt; rests = λ h. tt }
