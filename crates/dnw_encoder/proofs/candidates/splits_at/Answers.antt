use Rattle.std.proofs.Common.{◌-◌, inl, inr, length, arith}
use Rattle.std.proofs.lemmas.Bool.Decides.{Decides-eqb}
use Rattle.dnw_encoder.proofs.SuffixLaws.{walk_start, walk_more, walk_decides, walked_octets}
use Rattle.dnw_encoder.proofs.candidates.splits_at.Goals as goal

pub labels-init : goal.labels-init
labels-init c = walk_start c.args.name.now.labels c.args.front c.as_octets-labels.result.now c.as_octets-labels.ensures.name.each c.as_octets-labels.ensures.octets

pub split_at-requires : goal.split_at-requires
split_at-requires c =
    let w = c.labels.invariant in
    let at = walked_octets c.args.name.now.labels c.args.front c.as_octets-labels.result.now c.labels.rest.now c.as_octets-labels.ensures.octets w in
    let next = walk_more c.args.name.now.labels c.args.front c.labels.rest.now c.in-Some.length.now c.in-Some.behind.now w c.in-Some.ensures.cases.0 (omega (arith, at)) in
    omega (arith, next.fits, c.from.ensures)

pub labels-preserved : goal.labels-preserved
labels-preserved c =
    let w = c.labels.invariant in
    let at = walked_octets c.args.name.now.labels c.args.front c.as_octets-labels.result.now c.labels.rest.now c.as_octets-labels.ensures.octets w in
    let next = walk_more c.args.name.now.labels c.args.front c.labels.rest.now c.in-Some.length.now c.in-Some.behind.now w c.in-Some.ensures.cases.0 (omega (arith, at)) in
    rw (c.split_at.ensures.back, c.from.ensures) next.more

pub returns : goal.returns
returns c =
    walk_decides c.args.name.now.labels c.args.front c.as_octets-labels.result.now c.labels.rest.now _ c.as_octets-labels.ensures.octets c.labels.invariant
    (inr c.in_default.ensures.cases)
    (Decides-eqb (length c.as_octets-labels.result.now - length c.labels.rest.now) c.args.front)

pub returns-then-at-front : goal.returns-then-at-front
returns-then-at-front c =
    let w = c.labels.invariant in
    let at = walked_octets c.args.name.now.labels c.args.front c.as_octets-labels.result.now c.labels.rest.now c.as_octets-labels.ensures.octets w in
    walk_decides c.args.name.now.labels c.args.front c.as_octets-labels.result.now c.labels.rest.now _ c.as_octets-labels.ensures.octets w
    (inl (omega (arith, at, c.if-at-front.true)))
    (Decides-eqb (length c.as_octets-labels.result.now - length c.labels.rest.now) c.args.front)
