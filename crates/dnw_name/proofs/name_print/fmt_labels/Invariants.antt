use Rattle.std.proofs.Common.{◌≡◌, ◌++◌, ◌∷◌, length, List, ℕ}
use Rattle.std.specs.List.{flat_map}
use Rattle.std.specs.Fmt.{HasWritten, IsPlainFormatter}
use Rattle.dnw_net.specs.dnw_label.LabelPrint.{label_print}
use Rattle.dnw_name.specs.NamePrint.{labels_print}
use Rattle.dnw_name.proofs.name_print.fmt_labels.Given as goal

-- What was written and the labels that are left make the whole.
abbrev pub invariant-labels : goal.invariant-labels
invariant-labels g l =
    IsPlainFormatter l.fn.f → (front : List ℕ) × HasWritten g.W.Write.write_str_gives l.fn.f front l.f × (front ++ flat_map (λ label. 46 ∷ label_print label) l.labels ≡ labels_print l.name.labels)

abbrev pub decreases-labels : goal.decreases-labels
decreases-labels g l = length l.labels
