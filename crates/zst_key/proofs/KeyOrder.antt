-- The order of keys is the order of names.
use Rattle.std.proofs.Common.{◌≡◌, ℕ, ◌+◌, ◌-◌, ◌++◌, Bool, true, false, cond, List, [], ◌∷◌, length, length-append, map, take, reverse, refl, ap, ◌∙◌, arith}
use Rattle.std.specs.Char.{to_ascii_lowercase}
use Rattle.std.specs.Cmp.Lexicographic.{slice_cmp}
use Rattle.std.specs.List.{flat_map}
use Rattle.std.specs.Ordering.{nat_cmp, bool_cmp, ordering_then}
use Rattle.std.specs.declared.cmp.Ordering.{Ordering}
use Rattle.std.specs.declared.cmp.Ordering.TheVariants.{Less, Equal, Greater}
use Rattle.std.proofs.lemmas.Bool.Decides.{nat_tests}
use Rattle.std.proofs.Math.Seq.{take-append_seam}
use Rattle.std.proofs.lemmas.Grind.{flat_map-append}
use Rattle.std.proofs.lemmas.List.{append-nil, length-map}
use Rattle.dnw_name.specs.NameOrderLaws.{reverse-cons}
use Rattle.dnw_name.specs.dnw_label.Label.{label_cmp}
use Rattle.dnw_name.specs.DomainName.{DomainName, domain_name, name_cmp}
use Rattle.zst_key.specs.NameKeys.{rank, label_key, labels_key, name_key}

-- Ranks stand as the octets in lower case do.
pub rank-order : (a b : ℕ) → nat_cmp (rank a) (rank b) ≡ nat_cmp (to_ascii_lowercase a) (to_ascii_lowercase b)
unfolding rank
rank-order a b = grind (arith, nat_tests)

-- 0 stands before every rank.
pub end_before_rank : (a : ℕ) → nat_cmp 0 (rank a) ≡ Less
unfolding rank
end_before_rank a = grind (arith, nat_tests)

pub rank_behind_end : (a : ℕ) → nat_cmp (rank a) 0 ≡ Greater
unfolding rank
rank_behind_end a = grind (arith, nat_tests)

pub then-assoc : (o p q : Ordering) → ordering_then o (ordering_then p q) ≡ ordering_then (ordering_then o p) q
then-assoc Less p q = refl
then-assoc Equal p q = refl
then-assoc Greater p q = refl

-- What stands behind two labels decides where the labels are the same.
pub label_key-order : (x y s t : List ℕ) → slice_cmp nat_cmp (label_key x ++ s) (label_key y ++ t) ≡ ordering_then (label_cmp x y) (slice_cmp nat_cmp s t)
label_key-order [] [] s t = refl
label_key-order [] (b ∷ y) s t = ap (λ o. ordering_then o (slice_cmp nat_cmp s (label_key y ++ t))) (end_before_rank b)
label_key-order (a ∷ x) [] s t = ap (λ o. ordering_then o (slice_cmp nat_cmp (label_key x ++ s) t)) (rank_behind_end a)
label_key-order (a ∷ x) (b ∷ y) s t =
    ap (λ o. ordering_then o (slice_cmp nat_cmp (label_key x ++ s) (label_key y ++ t))) (rank-order a b)
    ∙ ap (ordering_then (nat_cmp (to_ascii_lowercase a) (to_ascii_lowercase b))) (label_key-order x y s t)
    ∙ then-assoc (nat_cmp (to_ascii_lowercase a) (to_ascii_lowercase b)) (label_cmp x y) (slice_cmp nat_cmp s t)

pub nothing_before_label : (y t : List ℕ) → slice_cmp nat_cmp [] (label_key y ++ t) ≡ Less
nothing_before_label [] t = refl
nothing_before_label (b ∷ y) t = refl

pub label_behind_nothing : (x s : List ℕ) → slice_cmp nat_cmp (label_key x ++ s) [] ≡ Greater
label_behind_nothing [] s = refl
label_behind_nothing (a ∷ x) s = refl

pub labels-order : (xs ys : List (List ℕ)) → slice_cmp nat_cmp (flat_map label_key xs) (flat_map label_key ys) ≡ slice_cmp label_cmp xs ys
labels-order [] [] = refl
labels-order [] (y ∷ ys) = nothing_before_label y (flat_map label_key ys)
labels-order (x ∷ xs) [] = label_behind_nothing x (flat_map label_key xs)
labels-order (x ∷ xs) (y ∷ ys) =
    label_key-order x y (flat_map label_key xs) (flat_map label_key ys) ∙ ap (ordering_then (label_cmp x y)) (labels-order xs ys)

flags-order : (f g : Bool) (s t : List ℕ) (o : Ordering) → slice_cmp nat_cmp s t ≡ o → slice_cmp nat_cmp (cond f 1 0 ∷ s) (cond g 1 0 ∷ t) ≡ ordering_then (bool_cmp f g) o
flags-order true true s t o e = e
flags-order true false s t o e = refl
flags-order false true s t o e = refl
flags-order false false s t o e = e

-- Keys in plain order stand as their names do.
pub key-order : (a b : DomainName) → slice_cmp nat_cmp (name_key a) (name_key b) ≡ name_cmp a b
key-order a b =
    flags-order a.fqdn b.fqdn (labels_key a.labels) (labels_key b.labels) (slice_cmp label_cmp (reverse a.labels) (reverse b.labels))
    (labels-order (reverse a.labels) (reverse b.labels))

flat_map-last : (xs : List (List ℕ)) (x : List ℕ) → flat_map label_key (xs ++ x ∷ []) ≡ flat_map label_key xs ++ label_key x
flat_map-last xs x = flat_map-append label_key xs (x ∷ []) ∙ ap (λ k. flat_map label_key xs ++ k) (append-nil (label_key x))

-- The key of a name is that of the name without its first label, and the label's.
pub key-cons : (fqdn : Bool) (label : List ℕ) (labels : List (List ℕ)) → name_key (domain_name fqdn (label ∷ labels)) ≡ name_key (domain_name fqdn labels) ++ label_key label
key-cons fqdn label labels =
    ap (λ k. cond fqdn 1 0 ∷ k) (ap (flat_map label_key) (reverse-cons label labels) ∙ flat_map-last (reverse labels) label)

pub length-label_key : (label : List ℕ) → length (label_key label) ≡ length label + 1
length-label_key label = omega (arith, length-append (map rank label) (0 ∷ []), length-map label rank)

pub base-key : (key first : List ℕ) (n : ℕ) → n ≡ length key - length first - 1 → (fqdn : Bool) (labels : List (List ℕ)) → key ≡ name_key (domain_name fqdn (first ∷ labels)) → take n key ≡ name_key (domain_name fqdn labels)
base-key key first n e fqdn labels is =
    let base = name_key (domain_name fqdn labels) in
    let parts : key ≡ base ++ label_key first = is ∙ key-cons fqdn first labels in
    let long : length key ≡ length base + length (label_key first) = ap length parts ∙ length-append base (label_key first) in
    let at : n ≡ length base = omega (arith, long, length-label_key first) in
    ap (λ m. take m key) at ∙ ap (take (length base)) parts ∙ take-append_seam base (label_key first)

-- The order of keys, as one function, is the order of names.
pub keys-order : (λ (a b : DomainName). slice_cmp nat_cmp (name_key a) (name_key b)) ≡ name_cmp
keys-order = λ i. λ a b. key-order a b i
