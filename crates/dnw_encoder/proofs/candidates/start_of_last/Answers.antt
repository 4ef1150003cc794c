use Rattle.std.proofs.Common.{length, ap, arith}
use Rattle.dnw_encoder.proofs.SuffixLaws.{walk_start, walk_more, walked_at, walked_octets}
use Rattle.dnw_encoder.proofs.candidates.start_of_last.Goals as goal

pub labels-init : goal.labels-init
labels-init c = walk_start c.args.name.now.labels (length c.as_octets-labels.result.now) c.as_octets-labels.result.now c.as_octets-labels.ensures.name.each c.as_octets-labels.ensures.octets

pub split_at-requires : goal.split_at-requires
split_at-requires c =
    let w = c.labels.invariant in
    let at = walked_octets c.args.name.now.labels (length c.as_octets-labels.result.now) c.as_octets-labels.result.now c.labels.rest.now c.as_octets-labels.ensures.octets w in
    let next = walk_more c.args.name.now.labels (length c.as_octets-labels.result.now) c.labels.rest.now c.in-Some.length.now c.in-Some.behind.now w c.in-Some.ensures.cases.0 (omega (arith, at, ap length c.in-Some.ensures.cases.0)) in
    omega (arith, next.fits, c.from-in-Some.ensures)

pub labels-preserved : goal.labels-preserved
labels-preserved c =
    let w = c.labels.invariant in
    let at = walked_octets c.args.name.now.labels (length c.as_octets-labels.result.now) c.as_octets-labels.result.now c.labels.rest.now c.as_octets-labels.ensures.octets w in
    let next = walk_more c.args.name.now.labels (length c.as_octets-labels.result.now) c.labels.rest.now c.in-Some.length.now c.in-Some.behind.now w c.in-Some.ensures.cases.0 (omega (arith, at, ap length c.in-Some.ensures.cases.0)) in
    rw (c.split_at.ensures.back, c.from-in-Some.ensures) next.more

pub returns : goal.returns
returns c = walked_at c.args.name.now.labels (length c.as_octets-labels.result.now) c.as_octets-labels.result.now c.labels.rest.now c.as_octets-labels.ensures.octets c.labels.invariant

pub returns-then-more-eq0 : goal.returns-then-more-eq0
returns-then-more-eq0 c = walked_at c.args.name.now.labels (length c.as_octets-labels.result.now) c.as_octets-labels.result.now c.labels.rest.now c.as_octets-labels.ensures.octets c.labels.invariant
