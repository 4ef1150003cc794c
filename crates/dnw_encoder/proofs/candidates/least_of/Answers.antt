use Rattle.std.proofs.Common.{◌-◌, length, refl, arith}
use Rattle.dnw_encoder.proofs.StartLaws.{gone_start, gone_more, gone_at}
use Rattle.dnw_encoder.proofs.candidates.least_of.Goals as goal

pub labels-init : goal.labels-init
labels-init c = gone_start c.args.starts.now.marks c.args.name.now.labels c.as_octets-labels.result.now c.as_octets-labels.ensures.name.each c.as_octets-labels.ensures.octets

pub split_at-requires : goal.split_at-requires
split_at-requires c =
    let next = gone_more c.args.starts.now.marks c.args.name.now.labels c.labels.rest.now c.in-Some.length.now c.in-Some.behind.now c.labels.invariant c.in-Some.ensures.cases.0 (c.may_hold.ensures c.if-may_hold.false) in
    omega (arith, next.fits, c.from.ensures)

pub labels-preserved : goal.labels-preserved
labels-preserved c =
    let next = gone_more c.args.starts.now.marks c.args.name.now.labels c.labels.rest.now c.in-Some.length.now c.in-Some.behind.now c.labels.invariant c.in-Some.ensures.cases.0 (c.may_hold.ensures c.if-may_hold.false) in
    rw (c.split_at.ensures.back, c.from.ensures) next.more

pub returns-clause-none : goal.returns-clause-none
returns-clause-none c = gone_at c.args.starts.now.marks c.args.name.now.labels c.as_octets-labels.result.now c.labels.rest.now c.as_octets-labels.ensures.octets c.labels.invariant _ refl

pub returns-then-may_hold-clause-none : goal.returns-then-may_hold-clause-none
returns-then-may_hold-clause-none c = gone_at c.args.starts.now.marks c.args.name.now.labels c.as_octets-labels.result.now c.labels.rest.now c.as_octets-labels.ensures.octets c.labels.invariant _ refl
