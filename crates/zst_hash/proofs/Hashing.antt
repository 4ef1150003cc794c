-- The octets of a name in lower case.
use Rattle.std.proofs.Common.{◌≡◌, ℕ, List, [], ◌∷◌, ◌++◌, map, ap, ◌∙◌}
use Rattle.std.specs.Prelude.{OnErr, Result, Ok, Err}
use Rattle.std.specs.Char.{to_ascii_lowercase}
use Rattle.dnw_name.specs.DomainName.{DomainName, IsDomainName, lowercase_name, name_octets}
use Rattle.dnw_name.proofs.dnw_label_lemmas.LabelsLemmas.{lower-octets}
use Rattle.dnw_name.specs.dnw_label.Labels.{label_octets}

pub lowered : (name : DomainName) (octets : List ℕ) → IsDomainName name → octets ≡ label_octets name.labels
    → ([] ++ map to_ascii_lowercase octets) ++ 0 ∷ [] ≡ name_octets (lowercase_name name)
lowered name octets is spelled =
    ap (λ (o : List ℕ). map to_ascii_lowercase o ++ 0 ∷ []) spelled
    ∙ ap (λ (o : List ℕ). o ++ 0 ∷ []) (lower-octets name.labels is.each)

pub err_when : {T E P : Type 0} (r : Result T E) → P → OnErr r P
err_when (Ok x) p = tt
err_when (Err e) p = p
