-- Parameters are equal where their octets are the same.
use Rattle.std.proofs.Common.{◌≡◌, ◌==◌, ◌&&◌, ◌+◌, Bool, true, false, ℕ, List, [], ◌∷◌, ◌++◌, nat_eq, refl, sym, ap, subst, ◌∙◌, arith}
use Rattle.std.specs.Cmp.Lexicographic.{pointwise, same_text}
use Rattle.std.proofs.lemmas.Cmp.{nat_list_eq_equiv}
use Rattle.std.proofs.lemmas.Bool.Decides.{nat_tests}
use Rattle.drd_params.specs.drd_fields.Equality.{Tells, fields_eq}
use Rattle.drd_params.specs.Equality.{told_length, value_kind, params_code}
use Rattle.drd_param_keys.specs.Keys.{key_number, key_of}
use Rattle.drd_params.specs.Params.{Param, Rise, AreParams, part_octets, param_octets, params_octets}
use Rattle.drd_params.specs.Values.{IsValueOf, value_octets}
use Rattle.drd_param_keys.specs.declared.key.SvcParamKey.{SvcParamKey}
use Rattle.drd_param_keys.specs.declared.key.SvcParamKey.TheVariants as key
use Rattle.drd_params.specs.declared.value.SvcParamValue.{SvcParamValue}
use Rattle.drd_params.specs.declared.value.SvcParamValue.TheVariants as value
use Rattle.drd_params.proofs.ReadParams.{param_same}

-- The kind of the values of a key.
abbrev pub kind_of : SvcParamKey → ℕ
kind_of key.Mandatory = 0
kind_of key.Alpn = 1
kind_of key.NoDefaultAlpn = 2
kind_of key.Port = 3
kind_of key.Ipv4Hint = 4
kind_of key.EchConfigList = 5
kind_of key.Ipv6Hint = 6
kind_of other = 7

pub kind-is : (k : SvcParamKey) (v : SvcParamValue) → IsValueOf k v → value_kind v ≡ kind_of k
kind-is key.Mandatory (value.Mandatory m) is = refl
kind-is key.Alpn (value.Alpn m) is = refl
kind-is key.NoDefaultAlpn value.NoDefaultAlpn is = refl
kind-is key.Port (value.Port m) is = refl
kind-is key.Ipv4Hint (value.Ipv4Hint m) is = refl
kind-is key.EchConfigList (value.EchConfigList m) is = refl
kind-is key.Ipv6Hint (value.Ipv6Hint m) is = refl
kind-is (key.Key n) (value.Unknown u) is = refl
kind-is key.Key65535 (value.Unknown u) is = refl
kind-is (key.Unknown n) (value.Unknown u) is = refl
kind-is k v is = absurd is

from_test : (n m : ℕ) → (n == m) ≡ true → n ≡ m
from_test n m e = grind (arith, nat_tests)

to_test : (n m : ℕ) → n ≡ m → (n == m) ≡ true
to_test n m e = grind (arith, nat_tests)

found_same : (xs ys : List ℕ) → xs ≡ ys → pointwise nat_eq xs ys ≡ true
found_same xs ys e = subst (λ (t : List ℕ). pointwise nat_eq xs t ≡ true) e (nat_list_eq_equiv.refl xs)

and_five : (x y t z w : Bool) → (x && (y && (t && (z && w)))) ≡ true → (x ≡ true) × (y ≡ true) × (z ≡ true) × (w ≡ true)
and_five true true true true true e = (refl, refl, refl, refl)
and_five true true true true false e = absurd (cc e)
and_five true true true false w e = absurd (cc e)
and_five true true false z w e = absurd (cc e)
and_five true false t z w e = absurd (cc e)
and_five false y t z w e = absurd (cc e)

all_five : (x y t z w : Bool) → x ≡ true → y ≡ true → t ≡ true → z ≡ true → w ≡ true → (x && (y && (t && (z && w)))) ≡ true
all_five x y t z w e f g h i = rw (e, f, g, h, i) refl

codes-octets : (ps qs : List Param) → fields_eq (params_code ps) (params_code qs) ≡ true → params_octets ps ≡ params_octets qs
codes-octets [] [] e = refl
codes-octets [] (q ∷ qs) e = absurd (cc e)
codes-octets (p ∷ ps) [] e = absurd (cc e)
codes-octets (p ∷ ps) (q ∷ qs) e =
    let parts = and_five (key_number p.0 == key_number q.0) (value_kind p.1 == value_kind q.1) (told_length (value_octets p.1) == told_length (value_octets q.1)) (pointwise nat_eq (value_octets p.1) (value_octets q.1)) (fields_eq (params_code ps) (params_code qs)) e in
    let number : key_number p.0 ≡ key_number q.0 = from_test (key_number p.0) (key_number q.0) parts.0 in
    let octets : value_octets p.1 ≡ value_octets q.1 = same_text (value_octets p.1) (value_octets q.1) (sym parts.2) in
    ap (λ (n : ℕ). part_octets n (value_octets p.1) ++ params_octets ps) number
    ∙ ap (λ (o : List ℕ). part_octets (key_number q.0) o ++ params_octets ps) octets
    ∙ ap (λ (o : List ℕ). param_octets q ++ o) (codes-octets ps qs parts.3)

octets-codes : (ps qs : List Param) (l m a b : ℕ) → Rise l ps a → Rise m qs b → params_octets ps ≡ params_octets qs → fields_eq (params_code ps) (params_code qs) ≡ true
octets-codes [] [] l m a b r s e = refl
octets-codes [] (q ∷ qs) l m a b r s e = absurd (cc e)
octets-codes (p ∷ ps) [] l m a b r s e = absurd (cc e)
octets-codes (p ∷ ps) (q ∷ qs) l m a b r s e =
    let same = param_same p q (params_octets ps) (params_octets qs) r.0 s.0 e in
    let key : p.0 ≡ q.0 = r.0.key ∙ ap key_of same.0 ∙ sym s.0.key in
    let kind : value_kind p.1 ≡ value_kind q.1 = kind-is p.0 p.1 r.0.value ∙ ap kind_of key ∙ sym (kind-is q.0 q.1 s.0.value) in
    all_five (key_number p.0 == key_number q.0) (value_kind p.1 == value_kind q.1) (told_length (value_octets p.1) == told_length (value_octets q.1)) (pointwise nat_eq (value_octets p.1) (value_octets q.1)) (fields_eq (params_code ps) (params_code qs))
    (to_test (key_number p.0) (key_number q.0) same.0) (to_test (value_kind p.1) (value_kind q.1) kind) (to_test (told_length (value_octets p.1)) (told_length (value_octets q.1)) (ap told_length same.1)) (found_same (value_octets p.1) (value_octets q.1) same.1)
    (octets-codes ps qs (key_number p.0 + 1) (key_number q.0 + 1) a b r.2 s.2 same.2)

true_or_false : (b : Bool) → b ≡ true → b ≡ false → ⊥
true_or_false b e f = cc

pub params-tell : (same : Bool) (ps qs : List Param) → same ≡ fields_eq (params_code ps) (params_code qs) → AreParams ps → AreParams qs → Tells same (params_octets ps) (params_octets qs)
params-tell same ps qs is are others = record {
  equal = λ e. codes-octets ps qs (sym is ∙ e);
  other = λ e whole. true_or_false same (is ∙ octets-codes ps qs 0 0 are.0 others.0 are.1 others.1 whole) e;
}
