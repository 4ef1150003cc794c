-- Wildcards among names.
use Rattle.std.proofs.Common.{ℕ, ◌≡◌, ◌<◌, ◌+◌, ◌-◌, ◌==◌, Bool, true, false, List, [], ◌∷◌, drop, length, ◌&&◌, arith, refl, ap, sym, ◌∙◌}
use Rattle.std.specs.Bool.{beq}
use Rattle.std.specs.Cmp.Lexicographic.{pointwise}
use Rattle.std.specs.List.{list_any}
use Rattle.std.specs.Str.{str_to_ascii_lowercase}
use Rattle.std.proofs.Math.Bool.{◌||◌}
use Rattle.std.proofs.lemmas.Bool.Decides.{nat_tests}
use Rattle.std.proofs.lemmas.Grind.{common_steps}
use Rattle.std.proofs.lemmas.List.{length-drop}
use Rattle.std.proofs.lemmas.Slice.Eq.{bytes_eq-Decides}
use Rattle.dnw_name.specs.DomainName.{DomainName, domain_name, is_wildcard, lowercase_name, name_eq}
use Rattle.dnw_name.specs.dnw_label.Label.{is_wildcard_label, label_eq}
use Rattle.zsv_blocked.specs.BlockedNames.{has_wildcard, is_listed, wildcard_over}
use Rattle.zsv_blocked.proofs.NamesLemmas.{has-none}

-- An asterisk has no case.
label-lower : (label : List ℕ) → is_wildcard_label (str_to_ascii_lowercase label) ≡ is_wildcard_label label
label-lower [] = refl
label-lower (a ∷ []) = grind (arith, nat_tests)
label-lower (a ∷ b ∷ label) = grind (arith, nat_tests)

pub name-lower : (name : DomainName) → is_wildcard (lowercase_name name) ≡ is_wildcard name
name-lower name = by_labels name.labels
  where
    by_labels : (labels : List (List ℕ)) → is_wildcard (lowercase_name (domain_name true labels)) ≡ is_wildcard (domain_name true labels)
    by_labels [] = refl
    by_labels (label ∷ labels) = label-lower label

labels-same : (a b : List ℕ) → label_eq a b ≡ true → is_wildcard_label a ≡ is_wildcard_label b
labels-same a b same =
    let lower : str_to_ascii_lowercase a ≡ str_to_ascii_lowercase b = (bytes_eq-Decides (str_to_ascii_lowercase a) (str_to_ascii_lowercase b)).0 same in
    sym (label-lower a) ∙ ap is_wildcard_label lower ∙ label-lower b

both-left : (a b : Bool) → (a && b) ≡ true → a ≡ true
both-left true b both = refl
both-left false b both = both

both-right : (a b : Bool) → (a && b) ≡ true → b ≡ true
both-right true b both = both
both-right false b both = cc

-- Of two names that are equal up to case both are wildcards, or neither is.
names-same : (a b : DomainName) → name_eq a b ≡ true → is_wildcard a ≡ is_wildcard b
names-same a b same = by_labels a.labels b.labels (both-right (beq a.fqdn b.fqdn) (pointwise label_eq a.labels b.labels) same)
  where
    by_labels : (xs ys : List (List ℕ)) → pointwise label_eq xs ys ≡ true → is_wildcard (domain_name true xs) ≡ is_wildcard (domain_name true ys)
    by_labels [] [] e = refl
    by_labels [] (y ∷ ys) e = cc
    by_labels (x ∷ xs) [] e = cc
    by_labels (x ∷ xs) (y ∷ ys) e = labels-same x y (both-left (label_eq x y) (pointwise label_eq xs ys) e)

neither-left : (a b : Bool) → (a || b) ≡ false → a ≡ false
neither-left true b neither = neither
neither-left false b neither = refl

neither-right : (a b : Bool) → (a || b) ≡ false → b ≡ false
neither-right true b neither = cc
neither-right false b neither = neither

-- Where none is a wildcard, none is listed.
unlisted : (names : List DomainName) (name : DomainName) → is_wildcard name ≡ true → list_any is_wildcard names ≡ false → is_listed names name ≡ false
unlisted [] name wild none = refl
unlisted (n ∷ names) name wild none = by_same (name_eq name n) refl (unlisted names name wild (neither-right (is_wildcard n) (list_any is_wildcard names) none))
  where
    by_same : (b : Bool) → name_eq name n ≡ b → is_listed names name ≡ false → (b || is_listed names name) ≡ false
    by_same true e rest =
        let same = names-same name n e in
        let tame = neither-left (is_wildcard n) (list_any is_wildcard names) none in
        cc
    by_same false e rest = rest

over-wild : (count : ℕ) (name : DomainName) → count < length name.labels → is_wildcard (wildcard_over count name) ≡ true
over-wild count name small =
    let size : length (drop (length name.labels - (count + 1)) name.labels) ≡ count + 1 = simp length-drop (omega (arith, small)) in
    let some : (length (drop (length name.labels - (count + 1)) name.labels) == 0) ≡ false = grind (arith, common_steps, size) in
    rw some refl

-- Where none is a wildcard, none is over a name.
pub none-over : (names : List DomainName) (depth : ℕ) (name : DomainName) → list_any is_wildcard names ≡ false → has_wildcard names depth name ≡ false
none-over names depth name none = has-none names depth name (λ k low high. unlisted names (wildcard_over k name) (over-wild k name high) none)
