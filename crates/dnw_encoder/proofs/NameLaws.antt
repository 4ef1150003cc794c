-- Laws of names that are written in full.
use Rattle.std.proofs.Common.{◌≡◌, ℕ, ◌+◌, true, false, List, [], ◌∷◌, ◌++◌, length, map, refl, ap, subst, arith, append_assoc, length-append}
use Rattle.std.specs.List.{All}
use Rattle.std.specs.Str.{str_to_ascii_lowercase}
use Rattle.std.proofs.lemmas.List.{length-map}
use Rattle.std.proofs.lemmas.List.Elements.{All-head, All-tail, All-map, All-weaker}
use Rattle.std.proofs.lemmas.List.Sums.{sum_by-cons}
use Rattle.dnw_decoder.specs.dnw_name.DomainName.{DomainName, domain_name, IsDomainName, labels_len, name_octets}
use Rattle.dnw_decoder.specs.dnw_label.Label.{IsLabel}
use Rattle.dnw_decoder.specs.Octets.{Stands}
use Rattle.dnw_decoder.specs.Spelling.{Spelled, at_end, at_label, NameAt}
use Rattle.dnw_decoder.proofs.Standing.{stands_within, stands_split}
use Rattle.dnw_encoder.specs.declared.modes.NameEncoding.{NameEncoding}
use Rattle.dnw_encoder.specs.declared.modes.NameEncoding.TheVariants.{Compressed, Uncompressed, UncompressedLowercase}
use Rattle.dnw_encoder.specs.State.{State}
use Rattle.dnw_decoder.specs.dnw_label.Labels.{label_octets}
use Rattle.dnw_encoder.specs.Effects.{WritesOctets}
use Rattle.dnw_encoder.proofs.Laws.{puts_stands, holds_map}
use Rattle.dnw_encoder.specs.Names.{EmitsName, encoded_name, written_name}

pub len-cons : (label : List ℕ) (labels : List (List ℕ)) → labels_len (label ∷ labels) ≡ length label + 1 + labels_len labels
len-cons = sum_by-cons (λ label. length label + 1)

length-labels : (labels : List (List ℕ)) → length (label_octets labels) ≡ labels_len labels
length-labels [] = refl
length-labels (l ∷ ls) = omega (arith, length-append (length l ∷ l) (label_octets ls), length-labels ls, len-cons l ls)

-- A name takes as many octets as its labels with their lengths, and one for its end.
pub length-name_octets : (name : DomainName) → length (name_octets name) ≡ labels_len name.labels + 1
length-name_octets name = omega (arith, length-append (label_octets name.labels) (0 ∷ []), length-labels name.labels)

pub length-octets : (name : DomainName) → length (name_octets name) ≡ length (label_octets name.labels) + 1
length-octets name = length-append (label_octets name.labels) (0 ∷ [])

len-lower : (labels : List (List ℕ)) → labels_len (map str_to_ascii_lowercase labels) ≡ labels_len labels
len-lower [] = refl
len-lower (l ∷ ls) =
    let same : length (str_to_ascii_lowercase l) ≡ length l = simp length-map in
    omega (arith, len-cons l ls, len-cons (str_to_ascii_lowercase l) (map str_to_ascii_lowercase ls), same, len-lower ls)

pub length-encoded : (encoding : NameEncoding) (name : DomainName) → length (name_octets (encoded_name encoding name)) ≡ length (name_octets name)
length-encoded Compressed name = refl
length-encoded Uncompressed name = refl
length-encoded UncompressedLowercase name =
    omega (arith, length-name_octets (encoded_name UncompressedLowercase name), length-name_octets name, len-lower name.labels)

-- A name's octets in full spell it.
pub spelled_octets : (message : List ℕ) (segment place : ℕ) (labels : List (List ℕ)) (end : ℕ) → All IsLabel labels → Stands message place (name_octets (domain_name true labels)) end → Spelled message segment (length message) place labels end
spelled_octets message segment place [] end are s =
    at_end (omega (arith, stands_within message place (0 ∷ []) end (omega arith) s, s.behind)) s
spelled_octets message segment place (l ∷ ls) end are s =
    let is : IsLabel l = All-head IsLabel l ls are in
    let both = stands_split message place (length l ∷ l) (label_octets ls ++ 0 ∷ []) end (subst (λ (o : List ℕ). Stands message place o end) (append_assoc (length l ∷ l) (label_octets ls) (0 ∷ [])) s) in
    let within = stands_within message place (length l ∷ l) (place + length (length l ∷ l)) (omega arith) both.0 in
    at_label (omega (arith, within)) is both.0 (spelled_octets message segment (place + length (length l ∷ l)) ls end (All-tail IsLabel l ls are) both.1)

pub name_stands : (message : List ℕ) (place : ℕ) (name : DomainName) (end : ℕ) → name.fqdn ≡ true → IsDomainName name → Stands message place (name_octets name) end → NameAt message place name end
name_stands message place name end full is s = record {
  full = full;
  spelled = spelled_octets message place place name.labels end is.each s;
  size = is.short;
}

-- A name that is put in full is written.
pub puts_name : (name : DomainName) (old new : State) → old.points ≡ false → IsDomainName (written_name old name) → WritesOctets (name_octets (written_name old name)) old new → EmitsName name old new
puts_name name old new plain is p = record {
  stays = λ s. holds_map new.offset new _ _ (λ octets there. name_stands octets old.offset (written_name old name) new.offset refl is there) (puts_stands (name_octets (written_name old name)) old new s p);
  size = omega (arith, p.offset, length-encoded old.encoding name);
  exact = λ e. p;
  used = λ e. absurd (cc (e, plain));
  longest = λ e. absurd (cc (e, plain));
  becomes = λ e. absurd (cc (e, plain));
  at_most = omega (arith, ap length p.candidates);
}

label_lower : (label : List ℕ) → IsLabel label → IsLabel (str_to_ascii_lowercase label)
label_lower label is =
    let same : length (str_to_ascii_lowercase label) ≡ length label = simp length-map in
    record { some = omega (arith, is.some); few = omega (arith, is.few) }

pub lower_name : (name : DomainName) → IsDomainName name → IsDomainName (encoded_name UncompressedLowercase name)
lower_name name is = record {
  each = All-map IsLabel str_to_ascii_lowercase name.labels (All-weaker IsLabel (λ label. IsLabel (str_to_ascii_lowercase label)) label_lower name.labels is.each);
  short = omega (arith, len-lower name.labels, is.short);
}

-- A name as it is written is one.
pub encoded_is : (encoding : NameEncoding) (name : DomainName) → IsDomainName name → IsDomainName (encoded_name encoding name)
encoded_is Compressed name is = record { each = is.each; short = is.short }
encoded_is Uncompressed name is = record { each = is.each; short = is.short }
encoded_is UncompressedLowercase name is = lower_name name is
