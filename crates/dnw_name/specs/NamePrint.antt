-- Printed names (RFC 1035 5.1).
use Rattle.std.specs.Prelude.{ℕ, ◌++◌, List, [], ◌∷◌, if◌then◌else◌}
use Rattle.std.specs.List.{flat_map}
use Rattle.dnw_net.specs.dnw_codes.Ascii.{full_stop}
use Rattle.dnw_net.specs.dnw_label.LabelPrint.{label_print}
use Rattle.dnw_name.specs.DomainName.{DomainName}

-- Labels with a dot before each but the first.
abbrev pub labels_print : List (List ℕ) → List ℕ
labels_print [] = []
labels_print (label ∷ labels) =
    label_print label ++ flat_map (λ later. full_stop ∷ label_print later) labels

-- A fully qualified name ends with a dot.
abbrev pub name_print : DomainName → List ℕ
name_print name = labels_print name.labels ++ (if name.fqdn then full_stop ∷ [] else [])
