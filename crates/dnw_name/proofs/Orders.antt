-- Names and labels, compared and in lower case.
use Rattle.std.proofs.Common.{◌≡◌, ℕ, ◌<◌, ◌+◌, Bool, true, false, not, take, get_or, nat_eq, List, [], ◌∷◌, length, map, reverse, refl, ap, arith, ◌∙◌}
use Rattle.std.specs.Cmp.Lexicographic.{slice_cmp, pointwise, same_text}
use Rattle.std.specs.Char.{to_ascii_lowercase}
use Rattle.std.specs.Str.{str_to_ascii_lowercase}
use Rattle.std.specs.Ordering.{nat_cmp, bool_cmp, on, ordering_then}
use Rattle.dnw_net.specs.dnw_label.Label.{label_cmp}
use Rattle.dnw_net.proofs.dnw_label_lemmas.Orders.{slice_cmp-map, slice_cmp-same}
use Rattle.dnw_name.specs.DomainName.{DomainName, domain_name, lowercase_name, name_cmp, name_cmp_by}
use Rattle.std.proofs.lemmas.Bool.Decides.{nat_tests}
use Rattle.std.proofs.lemmas.List.{take_more}

-- The order of names, by octets in lower case.
pub name_cmp-by_octets : (a b : DomainName) → name_cmp_by (slice_cmp (on to_ascii_lowercase nat_cmp)) a b ≡ name_cmp a b
name_cmp-by_octets a b =
    ap (ordering_then (bool_cmp a.fqdn b.fqdn))
    (slice_cmp-same (slice_cmp (on to_ascii_lowercase nat_cmp)) label_cmp (slice_cmp-map to_ascii_lowercase nat_cmp) (reverse a.labels) (reverse b.labels))

-- Octets that `!=` finds no difference in are the same.
pub same_octets : (xs ys : List ℕ) → not (pointwise nat_eq xs ys) ≡ false → xs ≡ ys
same_octets xs ys e = same_text xs ys (was_true (pointwise nat_eq xs ys) e)
  where
    was_true : (b : Bool) → not b ≡ false → true ≡ b
    was_true true e = refl
    was_true false e = e

-- Fronts that agree, one item longer.
pub same_fronts : {X : Type 0} (xs ys : List X) (i : ℕ) (x y : X) → i < length xs → i < length ys → take i xs ≡ take i ys → x ≡ get_or xs i x → y ≡ get_or ys i y → x ≡ y → take (i + 1) xs ≡ take (i + 1) ys
same_fronts xs ys i x y p q fronts at_x at_y same =
    let left = take_more xs i x p in
    let right = take_more ys i y q in
    cc

lower-lower : (octet : ℕ) → to_ascii_lowercase (to_ascii_lowercase octet) ≡ to_ascii_lowercase octet
lower-lower octet = grind (arith, nat_tests)

label-lower-lower : (label : List ℕ) → str_to_ascii_lowercase (str_to_ascii_lowercase label) ≡ str_to_ascii_lowercase label
label-lower-lower [] = refl
label-lower-lower (octet ∷ label) =
    ap (λ c. c ∷ str_to_ascii_lowercase (str_to_ascii_lowercase label)) (lower-lower octet)
    ∙ ap (λ cs. to_ascii_lowercase octet ∷ cs) (label-lower-lower label)

labels-lower-lower : (labels : List (List ℕ)) → map str_to_ascii_lowercase (map str_to_ascii_lowercase labels) ≡ map str_to_ascii_lowercase labels
labels-lower-lower [] = refl
labels-lower-lower (label ∷ labels) =
    ap (λ l. l ∷ map str_to_ascii_lowercase (map str_to_ascii_lowercase labels)) (label-lower-lower label)
    ∙ ap (λ ls. str_to_ascii_lowercase label ∷ ls) (labels-lower-lower labels)

-- A name in lower case stays in lower case.
pub lowercased-lowercased : (name : DomainName) → lowercase_name (lowercase_name name) ≡ lowercase_name name
lowercased-lowercased name = ap (domain_name name.fqdn) (labels-lower-lower name.labels)
