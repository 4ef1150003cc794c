-- Equal parameters are fed alike.
use Rattle.std.proofs.Common.{◌≡◌, ◌==◌, ◌&&◌, true, ℕ, List, [], ◌∷◌, ◌++◌, nat_eq, length, refl, ap, ◌∙◌, arith}
use Rattle.std.specs.Cmp.Lexicographic.{pointwise}
use Rattle.std.specs.Hash as fed
use Rattle.std.specs.Hash.{HashWrites}
use Rattle.std.specs.List.{flat_map}
use Rattle.drd_params.specs.drd_fields.Equality.{fields_eq}
use Rattle.drd_fields.proofs.EqualityLaws.{both_true, from_test, same_octets}
use Rattle.drd_params.specs.Equality.{told_length, value_kind, params_code}
use Rattle.drd_params.specs.Hashing.{value_input}
use Rattle.drd_params.specs.HashingLaws.{values-alike}
use Rattle.drd_svcb.specs.ParamsHashing.{param_input, params_input}
use Rattle.drd_param_keys.specs.Keys.{key_number}
use Rattle.drd_params.specs.Params.{Param}
use Rattle.drd_params.specs.Values.{value_octets}

each-alike : (ps qs : List Param) → fields_eq (params_code ps) (params_code qs) ≡ true
    → (length ps ≡ length qs) × (flat_map param_input ps ≡ flat_map param_input qs)
each-alike [] [] e = (refl, refl)
each-alike [] (q ∷ qs) e = absurd (cc e)
each-alike (p ∷ ps) [] e = absurd (cc e)
each-alike (p ∷ ps) (q ∷ qs) e =
    let tests =
    both_true (key_number p.0 == key_number q.0)
    ((value_kind p.1 == value_kind q.1)
    && ((told_length (value_octets p.1) == told_length (value_octets q.1))
    && (pointwise nat_eq (value_octets p.1) (value_octets q.1)
    && fields_eq (params_code ps) (params_code qs)))) e in
    let kinds =
    both_true (value_kind p.1 == value_kind q.1)
    ((told_length (value_octets p.1) == told_length (value_octets q.1))
    && (pointwise nat_eq (value_octets p.1) (value_octets q.1)
    && fields_eq (params_code ps) (params_code qs))) tests.1 in
    let lengths =
    both_true (told_length (value_octets p.1) == told_length (value_octets q.1))
    (pointwise nat_eq (value_octets p.1) (value_octets q.1)
    && fields_eq (params_code ps) (params_code qs)) kinds.1 in
    let octets =
    both_true (pointwise nat_eq (value_octets p.1) (value_octets q.1))
    (fields_eq (params_code ps) (params_code qs)) lengths.1 in
    let value : value_input p.1 ≡ value_input q.1 =
    values-alike p.1 q.1 (from_test (value_kind p.1) (value_kind q.1) kinds.0)
    (same_octets (value_octets p.1) (value_octets q.1) octets.0) in
    let later = each-alike ps qs octets.1 in (
      omega (arith, later.0),
      ap (λ (n : ℕ). (fed.u16 n ++ value_input p.1) ++ flat_map param_input ps)
          (from_test (key_number p.0) (key_number q.0) tests.0)
          ∙ ap (λ (w : HashWrites). (fed.u16 (key_number q.0) ++ w) ++ flat_map param_input ps)
          value
          ∙ ap (λ (w : HashWrites). param_input q ++ w) later.1,
    )

pub params-alike : (ps qs : List Param) → fields_eq (params_code ps) (params_code qs) ≡ true
    → params_input ps ≡ params_input qs
params-alike ps qs e =
    let same = each-alike ps qs e in
    ap (λ (n : ℕ). fed.usize n ++ flat_map param_input ps) same.0
    ∙ ap (λ (w : HashWrites). fed.usize (length qs) ++ w) same.1
