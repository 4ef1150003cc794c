-- Texts of names (RFC 1035 5.1).
use Rattle.std.specs.Prelude.{ℕ, ◌≡◌, ◌==◌, ◌||◌, ◌++◌, Bool, true, false, List, [], ◌∷◌, length, Option, Some, None, if◌then◌else◌}
use Rattle.dnw_net.specs.dnw_codes.Ascii.{full_stop}
use Rattle.dnw_net.specs.dnw_label.LabelText.{LabelText, IsTextLabel}
use Rattle.dnw_name.specs.DomainName.{DomainName, IsDomainName, domain_name}

-- Labels between dots; one behind the last label says that the name is fully qualified.
pub data LabelsText : List ℕ → Bool → List (List ℕ) → Type 0 where
  last : (text label : List ℕ) → LabelText text label [] → IsTextLabel label
      → LabelsText text false (label ∷ [])
  closed : (text label : List ℕ) (c : ℕ) → LabelText text label (c ∷ []) → IsTextLabel label
      → LabelsText text true (label ∷ [])
  more : (text label : List ℕ) (c : ℕ) (rest : List ℕ) (fqdn : Bool) (labels : List (List ℕ))
      → LabelText text label (c ∷ rest) → IsTextLabel label → LabelsText rest fqdn labels
      → LabelsText text fqdn (label ∷ labels)

-- The empty text is the relative name without labels, and a dot the root.
pub data NameText : List ℕ → DomainName → Type 0 where
  empty : NameText [] (domain_name false [])
  root : (c : ℕ) → c ≡ full_stop → NameText (c ∷ []) (domain_name true [])
  labels : (text : List ℕ) (fqdn : Bool) (labels : List (List ℕ)) → LabelsText text fqdn labels
      → IsDomainName (domain_name fqdn labels) → NameText text (domain_name fqdn labels)

-- RFC 1035 5.1: a relative name with labels, completed by the origin if there is one.
abbrev pub complete_name : DomainName → Option DomainName → DomainName
complete_name name None = name
complete_name name (Some origin) =
    if name.fqdn
    || (length name.labels == 0) then name else domain_name true (name.labels ++ origin.labels)
