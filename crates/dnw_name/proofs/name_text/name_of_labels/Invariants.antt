use Rattle.std.proofs.Common.{◌≡◌, ◌≤◌, ◌+◌, length, false}
use Rattle.dnw_name.proofs.TextLemmas.{LabelsSoFar}
use Rattle.dnw_name.specs.DomainName.{labels_len}
use Rattle.dnw_name.specs.NameRefusals.{LabelsFront}
use Rattle.dnw_name.proofs.name_text.name_of_labels.Given as goal

abbrev pub invariant-labels : goal.invariant-labels
invariant-labels l =
    (LabelsSoFar l.text l.name.labels l.rest × (l.name.fqdn ≡ false))
    × LabelsFront l.text l.name.labels l.rest
    × (labels_len l.name.labels + 1 ≤ 255)

abbrev pub decreases-labels : goal.decreases-labels
decreases-labels l = length l.rest
