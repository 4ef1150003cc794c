-- The name of a key, and its order.
use Rattle.std.proofs.Common.{◌≡◌, ℕ, ◌++◌, Bool, true, false, cond, List, [], ◌∷◌, map, reverse, nat_eq, ◌-◌, length, take, drop, ◌&&◌, refl, ap, sym, ◌∙◌, arith, append_assoc, append-nil}
use Rattle.std.specs.Bool.{beq}
use Rattle.std.specs.Char.{to_ascii_lowercase}
use Rattle.std.specs.Str.{str_to_ascii_lowercase}
use Rattle.std.specs.Cmp.Lexicographic.{slice_cmp, texts_ties}
use Rattle.std.specs.Str.{bytes_eq}
use Rattle.std.specs.List.{flat_map, starts_with}
use Rattle.std.specs.Ordering.{nat_cmp, is_eq}
use Rattle.std.proofs.lemmas.Bool.Decides.{nat_tests}
use Rattle.std.proofs.lemmas.Bool.{eq-eqb}
use Rattle.std.proofs.lemmas.Slice.Eq.{bytes_eq-Decides}
use Rattle.std.proofs.lemmas.List.{reverse-reverse, length-map}
use Rattle.dnw_name.specs.NameOrderLaws.{reverse-cons, name_eq-by_cmp}
use Rattle.dnw_name.specs.DomainName.{DomainName, domain_name, lowercase_name, name_cmp, name_eq, is_at_or_below}
use Rattle.zst_key.proofs.KeyFronts.{rank_is_no_end, key-front}
use Rattle.zst_key.proofs.KeyOrder.{key-order, key-cons, base-key}
use Rattle.dnw_name.specs.dnw_label.Label.{wildcard_label}
use Rattle.zst_key.specs.Ancestors.{parent, star}
use Rattle.zst_key.specs.NameKeys.{rank, label_key, labels_key, name_key, octet_of, labels_of, name_of_key, IsKey}

octet-rank : (a : ℕ) → octet_of (rank a) ≡ to_ascii_lowercase a
unfolding rank octet_of
octet-rank a = grind (arith, nat_tests)

lower-lower : (a : ℕ) → to_ascii_lowercase (to_ascii_lowercase a) ≡ to_ascii_lowercase a
lower-lower a = grind (arith, nat_tests)

rank-lower : (a : ℕ) → rank (to_ascii_lowercase a) ≡ rank a
unfolding rank
rank-lower a = rw (lower-lower a) refl

label-read : (label rest before : List ℕ) (labels : List (List ℕ)) → labels_of (label_key label ++ rest) before labels ≡ labels_of rest [] ((before ++ str_to_ascii_lowercase label) ∷ labels)
label-read [] rest before labels = ap (λ (l : List ℕ). labels_of rest [] (l ∷ labels)) (sym (append-nil before))
label-read (a ∷ label) rest before labels =
    ap (λ (t : Bool). cond t (labels_of (label_key label ++ rest) [] (before ∷ labels)) (labels_of (label_key label ++ rest) (before ++ octet_of (rank a) ∷ []) labels)) (rank_is_no_end a)
    ∙ label-read label rest (before ++ octet_of (rank a) ∷ []) labels
    ∙ ap (λ (l : List ℕ). labels_of rest [] (l ∷ labels))
    (append_assoc before (octet_of (rank a) ∷ []) (str_to_ascii_lowercase label) ∙ ap (λ (o : ℕ). before ++ o ∷ str_to_ascii_lowercase label) (octet-rank a))

abbrev lower_all : List (List ℕ) → List (List ℕ)
lower_all = map str_to_ascii_lowercase

labels-read : (ls labels : List (List ℕ)) → labels_of (flat_map label_key ls) [] labels ≡ reverse (lower_all ls) ++ labels
labels-read [] labels = refl
labels-read (l ∷ ls) labels =
    label-read l (flat_map label_key ls) [] labels
    ∙ labels-read ls (str_to_ascii_lowercase l ∷ labels)
    ∙ sym (ap (λ (r : List (List ℕ)). r ++ labels) (reverse-cons (str_to_ascii_lowercase l) (lower_all ls)) ∙ append_assoc (reverse (lower_all ls)) (str_to_ascii_lowercase l ∷ []) labels)

map-last : (ls : List (List ℕ)) (l : List ℕ) → lower_all (ls ++ l ∷ []) ≡ lower_all ls ++ str_to_ascii_lowercase l ∷ []
map-last [] l = refl
map-last (x ∷ ls) l = ap (λ (r : List (List ℕ)). str_to_ascii_lowercase x ∷ r) (map-last ls l)

reverse-lower : (ls : List (List ℕ)) → lower_all (reverse ls) ≡ reverse (lower_all ls)
reverse-lower [] = refl
reverse-lower (l ∷ ls) =
    ap lower_all (reverse-cons l ls) ∙ map-last (reverse ls) l ∙ ap (λ (r : List (List ℕ)). r ++ str_to_ascii_lowercase l ∷ []) (reverse-lower ls)
    ∙ sym (reverse-cons (str_to_ascii_lowercase l) (lower_all ls))

twice : (ls : List (List ℕ)) → reverse (reverse ls) ≡ ls
twice ls = reverse-reverse ls

flag-read : (f : Bool) → nat_eq (cond f 1 0) 1 ≡ f
flag-read true = refl
flag-read false = refl

-- The name of a name's key is that name in lower case.
pub name-read : (name : DomainName) → name_of_key (name_key name) ≡ lowercase_name name
name-read name =
    ap (λ (f : Bool). domain_name f (labels_of (labels_key name.labels) [] [])) (flag-read name.fqdn)
    ∙ ap (domain_name name.fqdn)
    (labels-read (reverse name.labels) [] ∙ append-nil (reverse (lower_all (reverse name.labels)))
    ∙ ap reverse (reverse-lower name.labels) ∙ twice (lower_all name.labels))

label_key-lower : (label : List ℕ) → label_key (str_to_ascii_lowercase label) ≡ label_key label
label_key-lower [] = refl
label_key-lower (a ∷ label) =
    ap (λ (r : ℕ). r ∷ label_key (str_to_ascii_lowercase label)) (rank-lower a) ∙ ap (λ (k : List ℕ). rank a ∷ k) (label_key-lower label)

labels_key-lower : (ls : List (List ℕ)) → flat_map label_key (lower_all ls) ≡ flat_map label_key ls
labels_key-lower [] = refl
labels_key-lower (l ∷ ls) =
    ap (λ (k : List ℕ). k ++ flat_map label_key (lower_all ls)) (label_key-lower l) ∙ ap (λ (k : List ℕ). label_key l ++ k) (labels_key-lower ls)

pub labels-lower : (ls : List (List ℕ)) → labels_key (lower_all ls) ≡ labels_key ls
labels-lower ls = ap (flat_map label_key) (sym (reverse-lower ls)) ∙ labels_key-lower (reverse ls)

pub key-lower : (name : DomainName) → name_key (lowercase_name name) ≡ name_key name
key-lower name = ap (λ (k : List ℕ). cond name.fqdn 1 0 ∷ k) (labels-lower name.labels)

pub is-key : (octets : List ℕ) (name : DomainName) → octets ≡ name_key name → IsKey octets
is-key octets name e =
    ap (λ (o : List ℕ). name_key (name_of_key o)) e ∙ ap name_key (name-read name) ∙ key-lower name ∙ sym e

-- Names in lower case stand, and lie below others, as the names do.
pub cmp-lower : (a b : DomainName) → name_cmp a (lowercase_name b) ≡ name_cmp a b
cmp-lower a b = sym (key-order a (lowercase_name b)) ∙ ap (slice_cmp nat_cmp (name_key a)) (key-lower b) ∙ key-order a b

pub eq-lower : (a b : DomainName) → name_eq a (lowercase_name b) ≡ name_eq a b
eq-lower a b = name_eq-by_cmp a (lowercase_name b) ∙ ap is_eq (cmp-lower a b) ∙ sym (name_eq-by_cmp a b)

pub below-lower : (a b : DomainName) → is_at_or_below (lowercase_name a) b ≡ is_at_or_below a b
below-lower a b =
    sym (key-front (lowercase_name a) b) ∙ ap (λ (k : List ℕ). starts_with nat_eq k (labels_key b.labels)) (labels-lower a.labels) ∙ key-front a b

flags_begin : (f g : Bool) (s t : List ℕ) → starts_with nat_eq (cond f 1 0 ∷ s) (cond g 1 0 ∷ t) ≡ (beq f g && starts_with nat_eq s t)
flags_begin true true s t = refl
flags_begin false false s t = refl
flags_begin true false s t = refl
flags_begin false true s t = refl

-- A key begins with another where its name lies below the other's and their flags are the same.
pub key-below : (a b : DomainName) → starts_with nat_eq (name_key a) (name_key b) ≡ (beq a.fqdn b.fqdn && is_at_or_below a b)
key-below a b = flags_begin a.fqdn b.fqdn (labels_key a.labels) (labels_key b.labels) ∙ ap (λ (t : Bool). beq a.fqdn b.fqdn && t) (key-front a b)

pub same_key : (a b : DomainName) → bytes_eq (name_key a) (name_key b) ≡ name_eq a b
same_key a b = texts_ties (name_key a) (name_key b) ∙ ap is_eq (key-order a b) ∙ sym (name_eq-by_cmp a b)

-- The octets of a key are those of its name.
pub octets-of : (octets : List ℕ) (name : DomainName) → IsKey octets → name_of_key octets ≡ name → octets ≡ name_key name
octets-of octets name is view = sym is ∙ ap name_key view

starts_itself : (k : List ℕ) → starts_with nat_eq k k ≡ true
starts_itself [] = refl
starts_itself (x ∷ k) = ap (λ (b : Bool). b && starts_with nat_eq k k) (eq-eqb x x refl) ∙ starts_itself k

-- A name lies below one that equals it.
pub eq-below : (a b : DomainName) → name_eq a b ≡ true → is_at_or_below b a ≡ true
eq-below a b e =
    let same : name_key a ≡ name_key b = (bytes_eq-Decides (name_key a) (name_key b)).0 (same_key a b ∙ e) in
    let labels : labels_key a.labels ≡ labels_key b.labels = ap (drop 1) same in
    sym (key-front b a) ∙ ap (starts_with nat_eq (labels_key b.labels)) labels ∙ starts_itself (labels_key b.labels)

pub cmp-lower-first : (a b : DomainName) → name_cmp (lowercase_name a) b ≡ name_cmp a b
cmp-lower-first a b = sym (key-order (lowercase_name a) b) ∙ ap (λ (k : List ℕ). slice_cmp nat_cmp k (name_key b)) (key-lower a) ∙ key-order a b

pub eq-lower-first : (a b : DomainName) → name_eq (lowercase_name a) b ≡ name_eq a b
eq-lower-first a b = name_eq-by_cmp (lowercase_name a) b ∙ ap is_eq (cmp-lower-first a b) ∙ sym (name_eq-by_cmp a b)

pub above-lower : (a b : DomainName) → is_at_or_below a (lowercase_name b) ≡ is_at_or_below a b
above-lower a b =
    sym (key-front a (lowercase_name b)) ∙ ap (starts_with nat_eq (labels_key a.labels)) (labels-lower b.labels) ∙ key-front a b

-- ---- keys that are changed in place
pub lower-itself : (octets : List ℕ) (name : DomainName) → IsKey octets → name_of_key octets ≡ name → lowercase_name name ≡ name
lower-itself octets name is view = sym (name-read name) ∙ ap name_of_key (sym (octets-of octets name is view)) ∙ view

-- Octets that are the key of a name in lower case have that name.
pub name-of-octets : (octets : List ℕ) (name : DomainName) → octets ≡ name_key name → lowercase_name name ≡ name → name_of_key octets ≡ name
name-of-octets octets name e low = ap name_of_key e ∙ name-read name ∙ low

first-and-rest : (labels : List (List ℕ)) (first : List ℕ) → take 1 labels ≡ first ∷ [] → labels ≡ first ∷ drop 1 labels
first-and-rest [] first e = let h : ⊥ = cc in absurd h
first-and-rest (l ∷ labels) first e = let same : l ≡ first = cc in ap (λ (x : List ℕ). x ∷ labels) same

rest-lower : (labels : List (List ℕ)) → lower_all (drop 1 labels) ≡ drop 1 (lower_all labels)
rest-lower [] = refl
rest-lower (l ∷ labels) = refl

pub parent-lower : (name : DomainName) → lowercase_name name ≡ name → lowercase_name (parent name) ≡ parent name
parent-lower name low = ap (domain_name name.fqdn) (rest-lower name.labels ∙ ap (λ (n : DomainName). drop 1 n.labels) low)

pub parent-key : (octets first : List ℕ) (n : ℕ) (name : DomainName) → IsKey octets → name_of_key octets ≡ name → take 1 name.labels ≡ str_to_ascii_lowercase first ∷ []
    → n ≡ length octets - length first - 1 → take n octets ≡ name_key (parent name)
parent-key octets first n name is view e at =
    base-key octets (str_to_ascii_lowercase first) n (at ∙ ap (λ (m : ℕ). length octets - m - 1) (sym (length-map first to_ascii_lowercase))) name.fqdn (drop 1 name.labels)
    (octets-of octets name is view ∙ ap (λ (ls : List (List ℕ)). name_key (domain_name name.fqdn ls)) (first-and-rest name.labels (str_to_ascii_lowercase first) e))

star-key : label_key wildcard_label ≡ 43 ∷ 0 ∷ []
unfolding rank
star-key = refl

pub star-lower : (name : DomainName) → lowercase_name name ≡ name → lowercase_name (star name) ≡ star name
star-lower name low = ap (λ (n : DomainName). domain_name name.fqdn (wildcard_label ∷ n.labels)) low

pub star-octets : (octets : List ℕ) (name : DomainName) → IsKey octets → name_of_key octets ≡ name → octets ++ 43 ∷ 0 ∷ [] ≡ name_key (star name)
star-octets octets name is view =
    ap (λ (o : List ℕ). o ++ 43 ∷ 0 ∷ []) (octets-of octets name is view) ∙ sym (key-cons name.fqdn wildcard_label name.labels ∙ ap (λ (k : List ℕ). name_key name ++ k) star-key)

-- Names that are equal have one name in lower case.
pub one-lower : (a b : DomainName) → name_eq a b ≡ true → lowercase_name a ≡ lowercase_name b
one-lower a b e =
    let same : name_key a ≡ name_key b = (bytes_eq-Decides (name_key a) (name_key b)).0 (same_key a b ∙ e) in
    sym (name-read a) ∙ ap name_of_key same ∙ name-read b

pub lower-twice : (name : DomainName) → lowercase_name (lowercase_name name) ≡ lowercase_name name
lower-twice name = sym (name-read (lowercase_name name)) ∙ ap name_of_key (key-lower name) ∙ name-read name
