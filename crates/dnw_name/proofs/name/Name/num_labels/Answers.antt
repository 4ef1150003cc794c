use Rattle.std.proofs.Common.{arith}
use Rattle.dnw_name.proofs.Lengths.{length-le-labels_len}
use Rattle.dnw_name.proofs.name.Name.num_labels.Goals as goal

pub overflow_cast-labels : goal.overflow_cast-labels
overflow_cast-labels c = omega (arith, length-le-labels_len c.self.inside.labels)
