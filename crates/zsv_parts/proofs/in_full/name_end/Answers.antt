use Rattle.std.proofs.Common.{sym, ◌∙◌, arith}
use Rattle.zsv_parts.proofs.NamesInFull.{none_left, none_walked, walked_end, walked_label, walked_start}
use Rattle.zsv_parts.proofs.in_full.name_end.Goals as goal

pub labels-init : goal.labels-init
labels-init c = walked_start c.args.octets.now c.args.start

pub returns-then-length-eq0-clause-there : goal.returns-then-length-eq0-clause-there
returns-then-length-eq0-clause-there c =
    walked_end c.args.octets.now c.args.start c.labels.end c.labels.invariant (omega (arith, c.labels-test.true, c.min-most.ensures)) (omega (arith, c.labels-test.true, c.min-most.ensures)) (sym c.from-length.ensures ∙ c.if-length-eq0.true)

pub returns-then-length-gt63-clause-none : goal.returns-then-length-gt63-clause-none
returns-then-length-gt63-clause-none c =
    none_walked c.args.octets.now c.args.start c.labels.end c.from-length.result c.labels.invariant (sym c.from-length.ensures) c.if-length-gt63.true

pub labels-preserved : goal.labels-preserved
labels-preserved c =
    walked_label c.args.octets.now c.args.start c.labels.end c.from-length.result c.labels.invariant (sym c.from-length.ensures) (omega (arith, c.labels-test.true, c.min-most.ensures)) (omega (arith, c.if-length-eq0.false)) (omega (arith, c.if-length-gt63.false))

pub returns-clause-none : goal.returns-clause-none
returns-clause-none c =
    none_left c.args.octets.now c.args.start c.labels.end c.labels.invariant (omega (arith, c.labels-test.false, c.min-most.ensures))
