use Rattle.std.proofs.Common.{◌+◌, ◌<◌, [], length, refl, slice_set, take, arith}
use Rattle.std.proofs.lemmas.Grind.{common_steps}
use Rattle.std.proofs.lemmas.List.{take_more_set}
use Rattle.dnw_label.proofs.LabelsLemmas.{spelt-next, spelt-start}
use Rattle.dnw_label.proofs.labels.gather_lengths.Goals as goal

pub labels-init : goal.labels-init
labels-init c = record {
  lengths = spelt-start [] c.args.spelled.now c.args.spelled.now [] c.requires.0 c.requires.1 c.requires.2 refl refl;
  within = grind (arith, common_steps);
  shorter = grind (arith, common_steps);
}

pub split_at-requires : goal.split_at-requires
split_at-requires c =
    let next = spelt-next [] c.args.spelled.now c.labels.rest.now (take c.labels.count c.labels.gathered) c.in-Some.length.now c.in-Some.behind.now c.in-Some.ensures.cases.0 c.labels.invariant.lengths in
    omega (arith, next.fits, c.from.ensures)

pub labels-preserved : goal.labels-preserved
labels-preserved c =
    let next = spelt-next [] c.args.spelled.now c.labels.rest.now (take c.labels.count c.labels.gathered) c.in-Some.length.now c.in-Some.behind.now c.in-Some.ensures.cases.0 c.labels.invariant.lengths in
    let within : c.labels.count < length c.labels.gathered = grind (arith, common_steps) in
    record {
      lengths = rw (c.split_at.ensures.back, c.from.ensures) (next.more (take (c.labels.count + 1) (slice_set c.labels.gathered c.labels.count c.in-Some.length.now)) (take_more_set c.labels.gathered c.labels.count c.in-Some.length.now within));
      within = grind (arith, common_steps);
      shorter = grind (arith, common_steps);
    }
