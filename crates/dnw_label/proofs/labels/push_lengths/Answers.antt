use Rattle.std.proofs.Common.{◌≡◌, ◌∷◌, ◌++◌, [], refl, arith}
use Rattle.std.proofs.lemmas.Grind.{common_steps}
use Rattle.dnw_label.proofs.LabelsLemmas.{spelt-next, spelt-start, spelt-whole}
use Rattle.dnw_label.proofs.labels.push_lengths.Goals as goal

pub labels-init : goal.labels-init
labels-init c = spelt-start c.args.lengths.now.items c.args.spelled.now c.args.spelled.now c.args.lengths.now.items c.requires.0 c.requires.1 c.requires.2 refl refl

pub split_at-requires : goal.split_at-requires
split_at-requires c =
    let next = spelt-next c.args.lengths.now.items c.args.spelled.now c.labels.rest.now c.labels.lengths.items c.in-Some.length.now c.in-Some.behind.now c.in-Some.ensures.cases.0 c.labels.invariant in
    omega (arith, next.fits, c.from.ensures)

pub labels-preserved : goal.labels-preserved
labels-preserved c =
    let next = spelt-next c.args.lengths.now.items c.args.spelled.now c.labels.rest.now c.labels.lengths.items c.in-Some.length.now c.in-Some.behind.now c.in-Some.ensures.cases.0 c.labels.invariant in
    let pushed : c.push.new.self.items ≡ c.labels.lengths.items ++ c.in-Some.length.now ∷ [] = grind (arith, common_steps) in
    rw (c.split_at.ensures.back, c.from.ensures) (next.more c.push.new.self.items pushed)

pub returns-clause-ok : goal.returns-clause-ok
returns-clause-ok c = spelt-whole c.args.lengths.now.items c.args.spelled.now c.labels.rest.now c.labels.lengths.items (grind (arith, common_steps)) c.labels.invariant
