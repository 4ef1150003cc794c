use Rattle.dnw_label.proofs.LabelsLemmas.{step-more}
use Rattle.dnw_label.proofs.label_iter.LabelIter.behind.Goals as goal

pub labels-preserved : goal.labels-preserved
labels-preserved c = step-more c.next.result c.args.self c.labels.labels c.next.new.self c.labels._passed c.labels.invariant c.next.ensures.steps
