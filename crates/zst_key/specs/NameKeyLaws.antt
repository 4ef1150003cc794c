-- Equal names have the same key, and so feed a hasher the same.
use Rattle.std.proofs.Common.{◌≡◌, ℕ, Bool, true, false, ◌&&◌, List, [], ◌∷◌, ◌++◌, reverse, ap, refl, sym, ◌∙◌, arith}
use Rattle.std.specs.Bool.{beq}
use Rattle.std.specs.Char.{to_ascii_lowercase}
use Rattle.std.specs.Cmp.Lexicographic.{pointwise}
use Rattle.std.specs.List.{flat_map}
use Rattle.std.specs.Str.{str_to_ascii_lowercase}
use Rattle.std.proofs.Common.{cond}
use Rattle.std.proofs.lemmas.Bool.Decides.{nat_tests}
use Rattle.std.proofs.lemmas.Slice.Eq.{bytes_eq-Decides}
use Rattle.dnw_name.specs.DomainName.{DomainName, name_eq}
use Rattle.dnw_name.specs.NameOrderLaws.{pointwise-reverse}
use Rattle.dnw_name.specs.dnw_label.Label.{label_eq}
use Rattle.zst_key.specs.NameKeys.{rank, label_key, labels_key, name_key}

lower-twice : (a : ℕ) → to_ascii_lowercase (to_ascii_lowercase a) ≡ to_ascii_lowercase a
lower-twice a = grind (arith, nat_tests)

rank-lower : (a : ℕ) → rank (to_ascii_lowercase a) ≡ rank a
unfolding rank
rank-lower a = rw (lower-twice a) refl

label-lower : (label : List ℕ) → label_key (str_to_ascii_lowercase label) ≡ label_key label
label-lower [] = refl
label-lower (a ∷ label) =
    ap (λ (r : ℕ). r ∷ label_key (str_to_ascii_lowercase label)) (rank-lower a)
    ∙ ap (λ (k : List ℕ). rank a ∷ k) (label-lower label)

label-alike : (x y : List ℕ) → label_eq x y ≡ true → label_key x ≡ label_key y
label-alike x y same =
    sym (label-lower x)
    ∙ ap label_key
    ((bytes_eq-Decides (str_to_ascii_lowercase x) (str_to_ascii_lowercase y)).0 same)
    ∙ label-lower y

and-parts : (a b : Bool) → (a && b) ≡ true → (a ≡ true) × (b ≡ true)
and-parts true b e = (refl, e)
and-parts false b e = absurd (cc)

labels-alike : (xs ys : List (List ℕ)) → pointwise label_eq xs ys ≡ true
    → flat_map label_key xs ≡ flat_map label_key ys
labels-alike [] [] e = refl
labels-alike [] (y ∷ ys) e = absurd (cc)
labels-alike (x ∷ xs) [] e = absurd (cc)
labels-alike (x ∷ xs) (y ∷ ys) e =
    let parts = and-parts (label_eq x y) (pointwise label_eq xs ys) e in
    ap (λ (k : List ℕ). k ++ flat_map label_key xs) (label-alike x y parts.0)
    ∙ ap (λ (k : List ℕ). label_key y ++ k) (labels-alike xs ys parts.1)

abbrev flag : Bool → ℕ
flag f = cond f 1 0

flags-alike : (f g : Bool) → beq f g ≡ true → flag f ≡ flag g
flags-alike true true e = refl
flags-alike false false e = refl
flags-alike true false e = absurd (cc)
flags-alike false true e = absurd (cc)

pub name_key-alike : (a b : DomainName) → name_eq a b ≡ true → name_key a ∷ [] ≡ name_key b ∷ []
name_key-alike a b e =
    let parts = and-parts (beq a.fqdn b.fqdn) (pointwise label_eq a.labels b.labels) e in
    let labels : labels_key a.labels ≡ labels_key b.labels =
    labels-alike (reverse a.labels) (reverse b.labels)
    (pointwise-reverse label_eq a.labels b.labels ∙ parts.1) in
    ap (λ (f : ℕ). (f ∷ labels_key a.labels) ∷ []) (flags-alike a.fqdn b.fqdn parts.0)
    ∙ ap (λ (ks : List ℕ). (cond b.fqdn 1 0 ∷ ks) ∷ []) labels
