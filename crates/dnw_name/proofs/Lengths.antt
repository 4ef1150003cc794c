-- Lengths of names.
use Rattle.std.proofs.Common.{◌≡◌, ◌∙◌, ℕ, ◌≤◌, ◌+◌, List, [], ◌∷◌, ◌++◌, All, length, refl, ap, sym, subst, arith, map, drop, Bool}
use Rattle.std.specs.Prelude.{OnOk, OnErr}
use Rattle.std.specs.declared.result.Result.{Result}
use Rattle.std.specs.declared.result.Result.TheVariants.{Ok, Err}
use Rattle.std.specs.Str.{str_to_ascii_lowercase}
use Rattle.std.proofs.lemmas.List.{length-map}
use Rattle.std.proofs.lemmas.List.Elements.{All-drop, All-map, All-cons, All-head, All-tail, All-weaker, All-push, All-append}
use Rattle.std.proofs.lemmas.List.Sums.{sum_by-cons, sum_by-take-drop, sum_by_push, sum_by-append}
use Rattle.dnw_net.specs.dnw_label.Label.{IsLabel, wildcard_label}
use Rattle.dnw_net.specs.dnw_label.Labels.{label_octets}
use Rattle.dnw_net.proofs.dnw_label_lemmas.LabelsLemmas.{length-label_octets}
use Rattle.dnw_name.specs.DomainName.{IsDomainName, domain_name, labels_len}

pub labels_len-cons : (label : List ℕ) (labels : List (List ℕ)) → labels_len (label ∷ labels) ≡ length label + 1 + labels_len labels
labels_len-cons = sum_by-cons (λ label. length label + 1)

pub length-le-labels_len : (labels : List (List ℕ)) → length labels ≤ labels_len labels
length-le-labels_len [] = omega arith
length-le-labels_len (label ∷ labels) = omega (arith, labels_len-cons label labels, length-le-labels_len labels)

labels_len-drop : (n : ℕ) (labels : List (List ℕ)) → labels_len (drop n labels) ≤ labels_len labels
labels_len-drop n labels = omega (arith, sum_by-take-drop (λ label. length label + 1) labels n)

-- The last labels of a name are a name.
pub IsDomainName-drop : (f : Bool) (labels : List (List ℕ)) (n : ℕ) → IsDomainName (domain_name f labels) → IsDomainName (domain_name f (drop n labels))
IsDomainName-drop f labels n name =
    record { each = All-drop IsLabel n labels name.each; short = omega (arith, labels_len-drop n labels, name.short) }

same-length : (label : List ℕ) → length (str_to_ascii_lowercase label) ≡ length label
same-length label = simp length-map

IsLabel-lower : (label : List ℕ) → IsLabel label → IsLabel (str_to_ascii_lowercase label)
IsLabel-lower label h = record { some = omega (arith, same-length label, h.some); few = omega (arith, same-length label, h.few) }

labels_len-lower : (labels : List (List ℕ)) → labels_len (map str_to_ascii_lowercase labels) ≡ labels_len labels
labels_len-lower [] = refl
labels_len-lower (label ∷ labels) =
    omega (
      arith,
      labels_len-cons label labels,
      labels_len-cons (str_to_ascii_lowercase label) (map str_to_ascii_lowercase labels),
      same-length label,
      labels_len-lower labels,
    )

-- A name in lower case is a name.
pub IsDomainName-lower : (f : Bool) (labels : List (List ℕ)) → IsDomainName (domain_name f labels) → IsDomainName (domain_name f (map str_to_ascii_lowercase labels))
IsDomainName-lower f labels name =
    record {
      each = All-map IsLabel str_to_ascii_lowercase labels (All-weaker IsLabel (λ label. IsLabel (str_to_ascii_lowercase label)) IsLabel-lower labels name.each);
      short = omega (arith, labels_len-lower labels, name.short);
    }

IsLabel-wildcard : IsLabel wildcard_label
IsLabel-wildcard = record { some = omega arith; few = omega arith }

-- So is a name whose first label is replaced by an asterisk.
pub IsDomainName-wildcard : (f : Bool) (label : List ℕ) (labels : List (List ℕ)) → IsDomainName (domain_name f (label ∷ labels)) → IsDomainName (domain_name f (wildcard_label ∷ labels))
IsDomainName-wildcard f label labels name =
    let first = All-head IsLabel label labels name.each in
    record {
      each = All-cons IsLabel wildcard_label labels IsLabel-wildcard (All-tail IsLabel label labels name.each);
      short = omega (arith, labels_len-cons label labels, labels_len-cons wildcard_label labels, first.some, name.short);
    }

-- A label more.
pub IsDomainName-push : (f : Bool) (labels : List (List ℕ)) (label : List ℕ) → IsDomainName (domain_name f labels) → IsLabel label → labels_len labels + length label + 2 ≤ 255 → IsDomainName (domain_name f (labels ++ label ∷ []))
IsDomainName-push f labels label name h fits =
    record {
      each = All-push IsLabel labels label name.each h;
      short = omega (arith, sum_by_push (λ l. length l + 1) labels label, fits);
    }

pub IsDomainName-cons : (f : Bool) (label : List ℕ) (labels : List (List ℕ)) → IsDomainName (domain_name f labels) → IsLabel label → labels_len labels + length label + 2 ≤ 255 → IsDomainName (domain_name f (label ∷ labels))
IsDomainName-cons f label labels name h fits =
    record {
      each = All-cons IsLabel label labels h name.each;
      short = omega (arith, labels_len-cons label labels, fits);
    }

pub IsDomainName-flag : (f g : Bool) (labels : List (List ℕ)) → IsDomainName (domain_name f labels) → IsDomainName (domain_name g labels)
IsDomainName-flag f g labels name = record { each = name.each; short = name.short }

-- Labels behind those of a name, where they have room.
pub IsDomainName-joined : (f : Bool) (old labels : List (List ℕ)) → All IsLabel labels → labels_len old + labels_len labels + 1 ≤ 255 → IsDomainName (domain_name f old) → IsDomainName (domain_name f (old ++ labels))
IsDomainName-joined f old labels each short name =
    record { each = All-append IsLabel old labels name.each each; short = omega (arith, sum_by-append (λ l. length l + 1) old labels, short) }

-- Labels that octets spell, behind those of a name.
pub IsDomainName-spelt : {E : Type 0} (r : Result (Unit {0}) E) (f : Bool) (old new : List (List ℕ)) (spelled : List ℕ) → (labels : List (List ℕ)) × All IsLabel labels × (spelled ≡ label_octets labels) → labels_len old + length spelled + 1 ≤ 255 → OnOk r ((labels : List (List ℕ)) → All IsLabel labels → spelled ≡ label_octets labels → new ≡ old ++ labels) → OnErr r (new ≡ old) → IsDomainName (domain_name f old) → IsDomainName (domain_name f new)
IsDomainName-spelt (Ok x) f old new spelled (labels, each, whole) short ok err name =
    let long : length spelled ≡ labels_len labels = ap length whole ∙ length-label_octets labels in
    subst (λ ls. IsDomainName (domain_name f ls)) (sym (ok labels each whole)) (IsDomainName-joined f old labels each (omega (arith, long, short)) name)
IsDomainName-spelt (Err e) f old new spelled labels short ok err name =
    subst (λ ls. IsDomainName (domain_name f ls)) (sym err) name
