-- A printed name is read back.
use Rattle.std.proofs.Common.{◌≡◌, ℕ, ◌++◌, Bool, true, false, cond, List, [], ◌∷◌, refl, sym, subst, All}
use Rattle.std.specs.Prelude.{Result, Ok, Err, IfOk}
use Rattle.std.proofs.lemmas.List.{append_assoc, append-nil}
use Rattle.std.proofs.lemmas.List.Elements.{All-head, All-tail}
use Rattle.dnw_net.specs.dnw_label.LabelPrint.{label_print}
use Rattle.dnw_net.specs.dnw_label.LabelText.{ends, dot, IsTextLabel}
use Rattle.dnw_net.proofs.dnw_label_lemmas.LabelRoundTrip.{label-reads}
use Rattle.dnw_name.specs.DomainName.{DomainName, IsDomainName, domain_name}
use Rattle.dnw_name.specs.NamePrint.{labels_print, name_print}
use Rattle.dnw_name.specs.NameText.{LabelsText, last, closed, more, NameText, empty, root, labels as labels_text}

labels-read : (fqdn : Bool) (label : List ℕ) (labels : List (List ℕ)) → All IsTextLabel (label ∷ labels) → LabelsText (labels_print (label ∷ labels) ++ cond fqdn (46 ∷ []) []) fqdn (label ∷ labels)
labels-read true label [] all =
    let is = All-head IsTextLabel label [] all in
    subst (λ (text : List ℕ). LabelsText (text ++ 46 ∷ []) true (label ∷ [])) (sym (append-nil (label_print label)))
    (closed (label_print label ++ 46 ∷ []) label 46 (label-reads label (46 ∷ []) is.octets (dot 46 [] refl)) is)
labels-read false label [] all =
    let is = All-head IsTextLabel label [] all in
    subst (λ (text : List ℕ). LabelsText (text ++ []) false (label ∷ [])) (sym (append-nil (label_print label)))
    (last (label_print label ++ []) label (label-reads label [] is.octets ends) is)
labels-read fqdn label (next ∷ labels) all =
    let is = All-head IsTextLabel label (next ∷ labels) all in
    let rest = labels_print (next ∷ labels) ++ cond fqdn (46 ∷ []) [] in
    subst (λ (text : List ℕ). LabelsText text fqdn (label ∷ next ∷ labels)) (sym (append_assoc (label_print label) (46 ∷ labels_print (next ∷ labels)) (cond fqdn (46 ∷ []) [])))
    (more (label_print label ++ 46 ∷ rest) label 46 rest fqdn (next ∷ labels)
    (label-reads label (46 ∷ rest) is.octets (dot 46 rest refl)) is
    (labels-read fqdn next labels (All-tail IsTextLabel label (next ∷ labels) all)))

-- The printed name is a text of the name, where each label is one of a text.
pub name-read_back : (name : DomainName) → IsDomainName name → All IsTextLabel name.labels → NameText (name_print name) name
name-read_back name is all = by_parts name.fqdn name.labels is all
  where
    by_parts : (fqdn : Bool) (ls : List (List ℕ)) → IsDomainName (domain_name fqdn ls) → All IsTextLabel ls → NameText (name_print (domain_name fqdn ls)) (domain_name fqdn ls)
    by_parts true [] is all = root 46 refl
    by_parts false [] is all = empty
    by_parts fqdn (label ∷ ls) is all = labels_text (labels_print (label ∷ ls) ++ cond fqdn (46 ∷ []) []) fqdn (label ∷ ls) (labels-read fqdn label ls all) is

pub printed-read_back : {T E : Type 0} (bytes : T → List ℕ) (r : Result T E) (name : DomainName) → IfOk r (λ text. bytes text ≡ name_print name) → IsDomainName name → IfOk r (λ text. All IsTextLabel name.labels → NameText (bytes text) name)
printed-read_back bytes (Ok text) name same is = λ all. rw same (name-read_back name is all)
printed-read_back bytes (Err e) name same is = tt
