-- Equal SVCB data feed a hasher the same.
use Rattle.std.specs.Prelude.{◌≡◌, ◌&&◌, Bool, true, ◌∷◌, [], ◌++◌}
use Rattle.std.proofs.Common.{refl, ap, ◌∙◌}
use Rattle.std.specs.Hash.{HashWrites}
use Rattle.drd_params.specs.drd_fields.Equality.{field_eq, fields_eq}
use Rattle.drd_fields.proofs.EqualityLaws.{both_true}
use Rattle.drd_params.specs.drd_fields.Fields.{short, name}
use Rattle.drd_params.specs.drd_fields.Order.{fields_input}
use Rattle.drd_fields.proofs.OrderLaws.{fields-alike}
use Rattle.drd_params.specs.Equality.{params_code}
use Rattle.drd_svcb.specs.ParamsHashing.{params_input}
use Rattle.drd_svcb.specs.ParamsHashingLaws.{params-alike}
use Rattle.drd_svcb.specs.Fields.{svcb_code}
use Rattle.drd_svcb.specs.declared.svcb.SVCB.{SVCB}
use Rattle.drd_svcb.specs.Hashing.{svcb_input}

pub svcb-alike : (a b : SVCB) → fields_eq (svcb_code a) (svcb_code b) ≡ true
    → svcb_input a ≡ svcb_input b
svcb-alike a b e =
    let first =
    both_true (field_eq (short a.svc_priority) (short b.svc_priority))
    (field_eq (name a.target_name) (name b.target_name)
    && fields_eq (params_code a.svc_params.items) (params_code b.svc_params.items)) e in
    let second =
    both_true (field_eq (name a.target_name) (name b.target_name))
    (fields_eq (params_code a.svc_params.items) (params_code b.svc_params.items)) first.1 in
    let front : fields_input (short a.svc_priority ∷ name a.target_name ∷ [])
    ≡ fields_input (short b.svc_priority ∷ name b.target_name ∷ []) =
    fields-alike (short a.svc_priority ∷ name a.target_name ∷ [])
    (short b.svc_priority ∷ name b.target_name ∷ [])
    (tests (field_eq (short a.svc_priority) (short b.svc_priority))
    (field_eq (name a.target_name) (name b.target_name)) first.0 second.0) in
    ap (λ (w : HashWrites). w ++ params_input a.svc_params.items) front
    ∙ ap (λ (w : HashWrites). fields_input (short b.svc_priority ∷ name b.target_name ∷ []) ++ w)
    (params-alike a.svc_params.items b.svc_params.items second.1)
  where
    tests : (x y : Bool) → x ≡ true → y ≡ true → (x && (y && true)) ≡ true
    tests x y e f = rw (e, f) refl
