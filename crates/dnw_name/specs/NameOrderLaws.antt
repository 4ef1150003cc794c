-- The laws of the order of names.
use Rattle.std.proofs.Common.{◌≡◌, ℕ, Bool, true, false, ◌&&◌, List, [], ◌∷◌, ◌++◌, reverse, refl, ap, sym, ◌∙◌}
use Rattle.std.specs.Bool.{beq}
use Rattle.std.specs.Cmp.Lexicographic.{slice_cmp, pointwise, texts_ties, lists_ties}
use Rattle.std.specs.Ordering.{eq_by_cmp, is_eq, bool_cmp, ordering_then}
use Rattle.std.specs.declared.cmp.Ordering.{Ordering}
use Rattle.std.specs.Str.{str_to_ascii_lowercase}
use Rattle.std.proofs.lemmas.List.{reverse-append}
use Rattle.dnw_net.specs.dnw_label.Label.{label_eq, label_cmp}
use Rattle.dnw_name.specs.DomainName.{DomainName, name_eq, name_cmp}

pub reverse-cons : {K : Type 0} (x : K) (xs : List K) → reverse (x ∷ xs) ≡ reverse xs ++ x ∷ []
reverse-cons x xs = reverse-append (x ∷ []) xs

pub and-false : (b : Bool) → (b && false) ≡ false
and-false true = refl
and-false false = refl

pub and-true : (b : Bool) → (b && true) ≡ b
and-true true = refl
and-true false = refl

pub and-assoc : (a b c : Bool) → (a && (b && c)) ≡ ((a && b) && c)
and-assoc true b c = refl
and-assoc false b c = refl

pub and-comm : (a b : Bool) → (a && b) ≡ (b && a)
and-comm true b = sym (and-true b)
and-comm false b = sym (and-false b)

module _ {K : Type 0} (E : K → K → Bool) where
  pub pointwise-last : (xs ys : List K) (x y : K)
      → pointwise E (xs ++ x ∷ []) (ys ++ y ∷ []) ≡ (pointwise E xs ys && E x y)
  pointwise-last [] [] x y = and-true (E x y)
  pointwise-last [] (z ∷ []) x y = and-false (E x z)
  pointwise-last [] (z ∷ w ∷ ys) x y = and-false (E x z)
  pointwise-last (z ∷ []) [] x y = and-false (E z y)
  pointwise-last (z ∷ w ∷ xs) [] x y = and-false (E z y)
  pointwise-last (v ∷ xs) (w ∷ ys) x y =
      ap (λ p. E v w && p) (pointwise-last xs ys x y)
      ∙ and-assoc (E v w) (pointwise E xs ys) (E x y)

  pub pointwise-none_last : (ys : List K) (y : K) → pointwise E [] (ys ++ y ∷ []) ≡ false
  pointwise-none_last [] y = refl
  pointwise-none_last (z ∷ ys) y = refl

  pub pointwise-last_none : (xs : List K) (x : K) → pointwise E (xs ++ x ∷ []) [] ≡ false
  pointwise-last_none [] x = refl
  pointwise-last_none (z ∷ xs) x = refl

  -- Two lists that agree item by item do so from the back too.
  pub pointwise-reverse : (xs ys : List K)
      → pointwise E (reverse xs) (reverse ys) ≡ pointwise E xs ys
  pointwise-reverse [] [] = refl
  pointwise-reverse [] (y ∷ ys) =
      ap (pointwise E []) (reverse-cons y ys) ∙ pointwise-none_last (reverse ys) y
  pointwise-reverse (x ∷ xs) [] =
      ap (λ zs. pointwise E zs []) (reverse-cons x xs) ∙ pointwise-last_none (reverse xs) x
  pointwise-reverse (x ∷ xs) (y ∷ ys) =
      ap (λ zs. pointwise E zs (reverse (y ∷ ys))) (reverse-cons x xs)
      ∙ ap (λ zs. pointwise E (reverse xs ++ x ∷ []) zs) (reverse-cons y ys)
      ∙ pointwise-last (reverse xs) (reverse ys) x y
      ∙ ap (λ p. p && E x y) (pointwise-reverse xs ys)
      ∙ and-comm (pointwise E xs ys) (E x y)

pub label_eq-by_cmp : (a b : List ℕ) → label_eq a b ≡ eq_by_cmp label_cmp a b
label_eq-by_cmp a b = texts_ties (str_to_ascii_lowercase a) (str_to_ascii_lowercase b)

flags_first : (f g : Bool) (p : Bool) (o : Ordering) → p ≡ is_eq o
    → (beq f g && p) ≡ is_eq (ordering_then (bool_cmp f g) o)
flags_first true true p o e = e
flags_first true false p o e = refl
flags_first false true p o e = refl
flags_first false false p o e = e

-- Two names are equal where they stand at one place of the order.
pub name_eq-by_cmp : (a b : DomainName) → name_eq a b ≡ eq_by_cmp name_cmp a b
name_eq-by_cmp a b =
    flags_first a.fqdn b.fqdn (pointwise label_eq a.labels b.labels)
    (slice_cmp label_cmp (reverse a.labels) (reverse b.labels))
    (sym (pointwise-reverse label_eq a.labels b.labels)
    ∙ lists_ties label_cmp label_eq-by_cmp (reverse a.labels) (reverse b.labels))
