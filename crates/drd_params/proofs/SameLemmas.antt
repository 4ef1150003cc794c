-- Lists that are compared entry by entry.
use Rattle.std.proofs.Common.{◌≡◌, ◌==◌, ◌&&◌, Bool, true, false, ℕ, ◌<◌, List, [], ◌∷◌, ◌++◌, nat_eq, length, refl, sym, ap, subst, ◌∙◌, arith}
use Rattle.std.specs.Cmp.Lexicographic.{pointwise}
use Rattle.std.proofs.lemmas.Bool.Decides.{nat_tests}
use Rattle.drd_params.specs.drd_fields.Equality.{Tells, fields_eq}
use Rattle.drd_fields.proofs.EqualityLaws.{rest_tells}
pub use Rattle.drd_fields.proofs.EqualityLaws.{short_apart, string_apart}
use Rattle.drd_params.specs.drd_fields.Fields.{short, rest}
use Rattle.drd_params.specs.Equality.{told_length, value_kind, value_code, params_code}
use Rattle.drd_param_keys.specs.Keys.{key_number}
use Rattle.drd_params.specs.Params.{Param}
use Rattle.drd_params.specs.Values.{value_octets}

-- Two that tell the same are the same.
one_told : (a b : Bool) (xs ys : List ℕ) → Tells a xs ys → Tells b xs ys → a ≡ b
one_told true true xs ys p q = refl
one_told false false xs ys p q = refl
one_told true false xs ys p q = absurd (q.other refl (p.equal refl))
one_told false true xs ys p q = absurd (p.other refl (q.equal refl))

kinds_same : (n : ℕ) → (n == n) ≡ true
kinds_same n = grind (arith, nat_tests)

told_true : (xs ys : List ℕ) → xs ≡ ys → (told_length xs == told_length ys) ≡ true
told_true xs ys e = subst (λ (o : List ℕ). (told_length xs == told_length o) ≡ true) e (kinds_same (told_length xs))

-- Octets that are the same are as many.
with_length : (xs ys : List ℕ) → pointwise nat_eq xs ys ≡ ((told_length xs == told_length ys) && (pointwise nat_eq xs ys && true))
with_length xs ys = by_test (pointwise nat_eq xs ys) (told_length xs == told_length ys) (rest_tells xs ys) (told_true xs ys)
  where
    by_test : (b t : Bool) → Tells b xs ys → (xs ≡ ys → t ≡ true) → b ≡ (t && (b && true))
    by_test true t tells told = sym (ap (λ (c : Bool). c && true) (told (tells.equal refl)))
    by_test false true tells told = refl
    by_test false false tells told = refl

-- Values of one kind are equal where their octets are the same.
pub kind-told : (b : Bool) (k : ℕ) (xs ys : List ℕ) → Tells b xs ys → b ≡ fields_eq (short k ∷ short (told_length xs) ∷ rest xs ∷ []) (short k ∷ short (told_length ys) ∷ rest ys ∷ [])
kind-told b k xs ys tells =
    one_told b (pointwise nat_eq xs ys) xs ys tells (rest_tells xs ys) ∙ with_length xs ys
    ∙ ap (λ (t : Bool). t && ((told_length xs == told_length ys) && (pointwise nat_eq xs ys && true))) (sym (kinds_same k))

and_four : (x y t z w : Bool) → (x && (y && (t && (z && w)))) ≡ ((x && (y && (t && (z && true)))) && w)
and_four true true true true w = refl
and_four true true true false w = refl
and_four true true false z w = refl
and_four true false t z w = refl
and_four false y t z w = refl

and_split : (x y w : Bool) → x ≡ true → y ≡ true → ((x && y) && w) ≡ w
and_split x y w e f = rw (e, f) refl

-- Lists are equal where their first keys and values are, and what is behind them.
params-parts : (p q : Param) (ps qs left right : List Param) → left ≡ p ∷ ps → right ≡ q ∷ qs → fields_eq (params_code left) (params_code right) ≡ (((key_number p.0 == key_number q.0) && fields_eq (value_code p.1) (value_code q.1)) && fields_eq (params_code ps) (params_code qs))
params-parts p q ps qs left right at other =
    ap (λ (l : List Param). fields_eq (params_code l) (params_code right)) at ∙ ap (λ (l : List Param). fields_eq (params_code (p ∷ ps)) (params_code l)) other
    ∙ and_four (key_number p.0 == key_number q.0) (value_kind p.1 == value_kind q.1) (told_length (value_octets p.1) == told_length (value_octets q.1)) (pointwise nat_eq (value_octets p.1) (value_octets q.1)) (fields_eq (params_code ps) (params_code qs))

-- Behind equal parameters, lists are equal where their rests are.
pub params-more : (p q : Param) (ps qs left right : List Param) → left ≡ p ∷ ps → right ≡ q ∷ qs → (key_number p.0 == key_number q.0) ≡ true → fields_eq (value_code p.1) (value_code q.1) ≡ true → fields_eq (params_code left) (params_code right) ≡ fields_eq (params_code ps) (params_code qs)
params-more p q ps qs left right at other keys values =
    params-parts p q ps qs left right at other
    ∙ and_split (key_number p.0 == key_number q.0) (fields_eq (value_code p.1) (value_code q.1)) (fields_eq (params_code ps) (params_code qs)) keys values

pub params-keys : (p q : Param) (ps qs left right : List Param) → left ≡ p ∷ ps → right ≡ q ∷ qs → (key_number p.0 == key_number q.0) ≡ false → fields_eq (params_code left) (params_code right) ≡ false
params-keys p q ps qs left right at other keys = params-parts p q ps qs left right at other ∙ rw keys refl

pub params-values : (p q : Param) (ps qs left right : List Param) → left ≡ p ∷ ps → right ≡ q ∷ qs → fields_eq (value_code p.1) (value_code q.1) ≡ false → fields_eq (params_code left) (params_code right) ≡ false
params-values p q ps qs left right at other values =
    params-parts p q ps qs left right at other
    ∙ no_split (key_number p.0 == key_number q.0) (fields_eq (value_code p.1) (value_code q.1)) (fields_eq (params_code ps) (params_code qs)) values
  where
    no_split : (x y w : Bool) → y ≡ false → ((x && y) && w) ≡ false
    no_split true y w e = rw e refl
    no_split false y w e = refl

pub params-short : (p : Param) (ps left right : List Param) → left ≡ p ∷ ps → length right ≡ 0 → fields_eq (params_code left) (params_code right) ≡ false
params-short p ps left [] at none = ap (λ (l : List Param). fields_eq (params_code l) []) at
params-short p ps left (q ∷ qs) at none = absurd (omega (arith, none))

pub params-end : (b : Bool) (left right : List Param) → length left ≡ 0 → b ≡ (length right == 0) → fields_eq (params_code left) (params_code right) ≡ b
params-end b [] [] none is = sym is
params-end b [] (q ∷ qs) none is = grind (arith, nat_tests)
params-end b (p ∷ ps) right none is = absurd (omega (arith, none))
