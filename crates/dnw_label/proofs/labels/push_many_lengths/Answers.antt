use Rattle.std.proofs.Common.{◌≡◌, ◌++◌, refl, take, arith}
use Rattle.std.proofs.lemmas.Grind.{common_steps}
use Rattle.dnw_label.proofs.LabelsLemmas.{spelt-later, spelt-more, spelt-start, spelt-whole}
use Rattle.dnw_label.proofs.labels.push_many_lengths.Goals as goal

pub labels-init : goal.labels-init
labels-init c = spelt-start c.args.lengths.now.items c.args.spelled.now c.args.spelled.now c.args.lengths.now.items c.requires.0 c.requires.1 c.requires.2 refl refl

pub gather_lengths-count-requires : goal.gather_lengths-count-requires
gather_lengths-count-requires c = spelt-later c.args.lengths.now.items c.args.spelled.now c.labels.rest.now c.labels.lengths.items c.labels.invariant

pub labels-preserved : goal.labels-preserved
labels-preserved c =
    let pushed : c.extend_from_slice.new.self.items ≡ c.labels.lengths.items ++ take c.gather_lengths-count.result.0 c.gather_lengths-count.new.gathered = grind (arith, common_steps) in
    spelt-more c.args.lengths.now.items c.args.spelled.now c.labels.rest.now c.labels.lengths.items c.gather_lengths-count.result.1.now
    (take c.gather_lengths-count.result.0 c.gather_lengths-count.new.gathered) c.extend_from_slice.new.self.items c.labels.invariant c.gather_lengths-count.ensures.lengths pushed

pub returns-clause-ok : goal.returns-clause-ok
returns-clause-ok c = spelt-whole c.args.lengths.now.items c.args.spelled.now c.labels.rest.now c.labels.lengths.items (grind (arith, common_steps)) c.labels.invariant
