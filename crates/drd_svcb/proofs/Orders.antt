-- Parameters in the order of their octets.
use Rattle.std.proofs.Common.{◌≡◌, ◌≢◌, ℕ, ◌<◌, ◌+◌, ◌^◌, List, [], ◌∷◌, ◌++◌, length, refl, sym, ap, ◌∙◌, arith}
use Rattle.std.specs.Cmp.{ranked, nat_cmp_is}
use Rattle.std.specs.Ordering.{nat_cmp, ordering_then, MatchOrdering}
use Rattle.std.specs.declared.cmp.Ordering.{Ordering}
use Rattle.std.specs.declared.cmp.Ordering.TheVariants.{Less, Equal, Greater}
use Rattle.drd_params.specs.dnw_decoder.Octets.{octets_16}
use Rattle.drd_params.specs.drd_fields.Fields.{Field, short, rest}
use Rattle.drd_params.specs.drd_fields.Order.{field_cmp, fields_cmp, octets_cmp, Orders}
use Rattle.drd_fields.proofs.OrderLaws.{cmp_one, cmp_strings, short_orders}
use Rattle.drd_params.specs.Equality.{told_length, value_kind, value_code, param_code, params_code}
pub use Rattle.drd_params.proofs.OrderLemmas.{then-equal, decided}
use Rattle.drd_param_keys.specs.Keys.{key_number, key_of}
use Rattle.drd_params.specs.Params.{Param, Rise, AreParams, params_octets}
use Rattle.drd_params.specs.Values.{value_octets}
use Rattle.drd_params.proofs.Canonical.{kind_of, kind-is}

pub ports : (n m : ℕ) (o : Ordering) → n < 2 ^ 16 → m < 2 ^ 16 → o ≡ nat_cmp n m → o ≡ octets_cmp (octets_16 n) (octets_16 m)
ports n m o small few is = is ∙ sym (then-equal (nat_cmp n m)) ∙ sym ((short_orders n m small few).decides [] [])

-- Fields.

then-three : (a b d e : Ordering) → ordering_then a (ordering_then b (ordering_then d e)) ≡ ordering_then a (ordering_then b (ordering_then d (ordering_then e Equal)))
then-three a b d e = ap (λ (r : Ordering). ordering_then a (ordering_then b (ordering_then d r))) (sym (then-equal e))

pub values-by : (k l n m : ℕ) (xs ys : List ℕ) → fields_cmp (short k ∷ short n ∷ rest xs ∷ []) (short l ∷ short m ∷ rest ys ∷ []) ≡ ordering_then (nat_cmp k l) (ordering_then (nat_cmp n m) (octets_cmp xs ys))
values-by k l n m xs ys =
    ap (λ (r : Ordering). ordering_then r (ordering_then (field_cmp (short n) (short m)) (ordering_then (octets_cmp xs ys) Equal))) (cmp_one k l)
    ∙ ap (λ (r : Ordering). ordering_then (nat_cmp k l) (ordering_then r (ordering_then (octets_cmp xs ys) Equal))) (cmp_one n m)
    ∙ ap (λ (r : Ordering). ordering_then (nat_cmp k l) (ordering_then (nat_cmp n m) r)) (then-equal (octets_cmp xs ys))

pub param-by : (p q : Param) → fields_cmp (param_code p) (param_code q) ≡ ordering_then (nat_cmp (key_number p.0) (key_number q.0)) (fields_cmp (value_code p.1) (value_code q.1))
param-by p q = ap (λ (r : Ordering). ordering_then r (fields_cmp (value_code p.1) (value_code q.1))) (cmp_one (key_number p.0) (key_number q.0))

cmp-fields : (xs ys us vs : List Field) → length xs ≡ length ys → fields_cmp (xs ++ us) (ys ++ vs) ≡ ordering_then (fields_cmp xs ys) (fields_cmp us vs)
cmp-fields [] [] us vs e = refl
cmp-fields [] (y ∷ ys) us vs e = absurd (cc e)
cmp-fields (x ∷ xs) [] us vs e = absurd (cc e)
cmp-fields (x ∷ xs) (y ∷ ys) us vs e = by_head (field_cmp x y) (cmp-fields xs ys us vs (cc e))
  where
    by_head : (o : Ordering) → fields_cmp (xs ++ us) (ys ++ vs) ≡ ordering_then (fields_cmp xs ys) (fields_cmp us vs) → ordering_then o (fields_cmp (xs ++ us) (ys ++ vs)) ≡ ordering_then (ordering_then o (fields_cmp xs ys)) (fields_cmp us vs)
    by_head Less later = refl
    by_head Equal later = later
    by_head Greater later = refl

pub params-first : (p q : Param) (ps qs left right : List Param) → left ≡ p ∷ ps → right ≡ q ∷ qs → fields_cmp (params_code left) (params_code right) ≡ ordering_then (fields_cmp (param_code p) (param_code q)) (fields_cmp (params_code ps) (params_code qs))
params-first p q ps qs left right at other =
    ap (λ (l : List Param). fields_cmp (params_code l) (params_code right)) at
    ∙ ap (λ (l : List Param). fields_cmp (params_code (p ∷ ps)) (params_code l)) other
    ∙ cmp-fields (param_code p) (param_code q) (params_code ps) (params_code qs) refl

pub params-longer : (p : Param) (ps left right : List Param) → left ≡ p ∷ ps → length right ≡ 0 → Greater ≡ fields_cmp (params_code left) (params_code right)
params-longer p ps left [] at none = sym (ap (λ (l : List Param). fields_cmp (params_code l) []) at)
params-longer p ps left (q ∷ qs) at none = absurd (omega (arith, none))

pub params-less : (left right : List Param) → length left ≡ 0 → 0 < length right → Less ≡ fields_cmp (params_code left) (params_code right)
params-less [] [] none some = absurd (omega (arith, some))
params-less [] (q ∷ qs) none some = refl
params-less (p ∷ ps) right none some = absurd (omega (arith, none))

pub params-same : (left right : List Param) → length left ≡ 0 → length right ≡ 0 → Equal ≡ fields_cmp (params_code left) (params_code right)
params-same [] [] none nor = refl
params-same [] (q ∷ qs) none nor = absurd (omega (arith, nor))
params-same (p ∷ ps) right none nor = absurd (omega (arith, none))

-- What stands behind two numbers counts only where they are equal.
then-same : (n m : ℕ) (x y : Ordering) → (n ≡ m → x ≡ y) → ordering_then (nat_cmp n m) x ≡ ordering_then (nat_cmp n m) y
then-same n m x y same = by_order (nat_cmp n m) (ranked n m (nat_cmp n m) refl)
  where
    by_order : (o : Ordering) → MatchOrdering o (n < m) (n ≡ m) (m < n) → ordering_then o x ≡ ordering_then o y
    by_order Less h = refl
    by_order Equal h = same h
    by_order Greater h = refl

tie : (n m : ℕ) → n ≡ m → nat_cmp n m ≡ Equal
tie n m e = sym (nat_cmp_is n m Equal e)

told-is : (octets : List ℕ) → length octets < 65536 → told_length octets ≡ length octets
told-is octets few = grind (arith, few)

-- Of parameters whose keys rise this is the order of their octets.
rise-order : (ps qs : List Param) (l m a b : ℕ) → Rise l ps a → Rise m qs b → fields_cmp (params_code ps) (params_code qs) ≡ octets_cmp (params_octets ps) (params_octets qs)
rise-order [] [] l m a b r s = refl
rise-order [] (q ∷ qs) l m a b r s = refl
rise-order (p ∷ ps) [] l m a b r s = refl
rise-order (p ∷ ps) (q ∷ qs) l m a b r s =
    let kp = key_number p.0 in
    let kq = key_number q.0 in
    let vp = value_octets p.1 in
    let vq = value_octets q.1 in
    let later : fields_cmp (params_code ps) (params_code qs) ≡ octets_cmp (params_octets ps) (params_octets qs) = rise-order ps qs (kp + 1) (kq + 1) a b r.2 s.2 in
    let kinds : kp ≡ kq → value_kind p.1 ≡ value_kind q.1 =
    λ same. kind-is p.0 p.1 r.0.value ∙ ap kind_of (r.0.key ∙ ap key_of same ∙ sym s.0.key) ∙ sym (kind-is q.0 q.1 s.0.value) in
    params-first p q ps qs (p ∷ ps) (q ∷ qs) refl refl
    ∙ ap (λ (o : Ordering). ordering_then o (fields_cmp (params_code ps) (params_code qs))) (param-by p q)
    ∙ regroup (nat_cmp kp kq) (fields_cmp (value_code p.1) (value_code q.1)) (fields_cmp (params_code ps) (params_code qs))
    ∙ then-same kp kq (ordering_then (fields_cmp (value_code p.1) (value_code q.1)) (fields_cmp (params_code ps) (params_code qs)))
    (octets_cmp ((octets_16 (length vp) ++ vp) ++ params_octets ps) ((octets_16 (length vq) ++ vq) ++ params_octets qs))
    (λ same. by_value (value_kind p.1) (value_kind q.1) vp vq (fields_cmp (params_code ps) (params_code qs)) (params_octets ps) (params_octets qs) (kinds same) r.0.few s.0.few later)
    ∙ sym ((short_orders kp kq (omega (arith, r.0.number)) (omega (arith, s.0.number))).decides ((octets_16 (length vp) ++ vp) ++ params_octets ps) ((octets_16 (length vq) ++ vq) ++ params_octets qs))
  where
    regroup : (x y z : Ordering) → ordering_then (ordering_then x y) z ≡ ordering_then x (ordering_then y z)
    regroup Less y z = refl
    regroup Equal y z = refl
    regroup Greater y z = refl

    by_value : (k j : ℕ) (vp vq : List ℕ) (z : Ordering) (us vs : List ℕ) → k ≡ j → length vp < 65536 → length vq < 65536 → z ≡ octets_cmp us vs → ordering_then (fields_cmp (short k ∷ short (told_length vp) ∷ rest vp ∷ []) (short j ∷ short (told_length vq) ∷ rest vq ∷ [])) z ≡ octets_cmp ((octets_16 (length vp) ++ vp) ++ us) ((octets_16 (length vq) ++ vq) ++ vs)
    by_value k j vp vq z us vs same few small is =
        ap (λ (o : Ordering). ordering_then o z) (values-by k j (told_length vp) (told_length vq) vp vq)
        ∙ ap (λ (o : Ordering). ordering_then (ordering_then o (ordering_then (nat_cmp (told_length vp) (told_length vq)) (octets_cmp vp vq))) z) (tie k j same)
        ∙ ap (λ (n : ℕ). ordering_then (ordering_then (nat_cmp n (told_length vq)) (octets_cmp vp vq)) z) (told-is vp few)
        ∙ ap (λ (n : ℕ). ordering_then (ordering_then (nat_cmp (length vp) n) (octets_cmp vp vq)) z) (told-is vq small)
        ∙ ap (ordering_then (ordering_then (nat_cmp (length vp) (length vq)) (octets_cmp vp vq))) is
        ∙ sym (cmp_strings vp vq us vs)
        ∙ sym ((short_orders (length vp) (length vq) (omega (arith, few)) (omega (arith, small))).decides (vp ++ us) (vq ++ vs))

pub params-order : (ps qs : List Param) (o : Ordering) → o ≡ fields_cmp (params_code ps) (params_code qs) → AreParams ps → AreParams qs → Orders o (params_octets ps) (params_octets qs)
params-order ps qs o is are others = is ∙ rise-order ps qs 0 0 are.0 others.0 are.1 others.1
