use Rattle.std.proofs.Common.{ℕ, ◌≡◌, ◌≤◌, length, List, All}
use Rattle.dnw_net.specs.ArpaLabels.{WriteNumbers}
use Rattle.dnw_net.proofs.NetworkLemmas.{numbers-refused, numbers-more, numbers-done, if_none, less_unless}
use Rattle.dnw_net.proofs.network.read_numbers.Goals as goal

pub returns-in_err-numbers-clause-refused : goal.returns-in_err-numbers-clause-refused
returns-in_err-numbers-clause-refused g c =
    if_none c.from_residual.result ((missing : ℕ) → (others : List ℕ) → length others ≡ length c.args.numbers.now → All (λ n. n ≤ g.N.Numerals.last) others → WriteNumbers g.N.Numerals.written c.args.labels missing others → ⊥)
    (λ missing others size small writes.
    numbers-refused g.N.Numerals.written g.N.Numerals.last c.args.labels c.labels.left c.next_back.new.self c.labels.numbers (length c.args.numbers.now) c.labels.count c.in-Some.label.now
    c.labels.invariant c.in-Some.ensures.steps c.in_err-numbers.ensures.none missing others small writes)

pub labels-preserved : goal.labels-preserved
labels-preserved g c =
    numbers-more g.N.Numerals.written g.N.Numerals.last c.args.labels c.labels.left c.next_back.new.self c.labels.numbers (length c.args.numbers.now) c.labels.count c.in-Some.label.now c.in_ok-numbers.field-0
    c.labels.invariant c.in-Some.ensures.steps c.in_ok-numbers.ensures.some.0 c.in_ok-numbers.ensures.some.1
    (less_unless c.labels.count (length c.args.numbers.now) (length c.labels.numbers) c.labels.invariant.small c.labels.invariant.length c.if-count-numbers.false)

pub returns-clause-ok : goal.returns-clause-ok
returns-clause-ok g c = (
  c.labels.invariant.small,
  numbers-done g.N.Numerals.written g.N.Numerals.last c.args.labels c.labels.left c.labels.numbers (length c.args.numbers.now) c.labels.count c.requires.zero c.labels.invariant c.in_default.ensures.steps.0,
)
