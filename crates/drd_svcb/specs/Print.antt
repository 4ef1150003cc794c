-- Printed SVCB data (RFC 9460 2.1).
use Rattle.std.specs.Prelude.{ℕ, List, ◌∷◌, ◌++◌}
use Rattle.std.specs.Fmt.{decimal}
use Rattle.std.specs.List.{flat_map}
use Rattle.drd_params.specs.dnw_codes.Ascii.{space}
use Rattle.drd_params.specs.dnw_name.NamePrint.{name_print}
use Rattle.drd_params.specs.Params.{Param}
use Rattle.drd_params.specs.Print.{param_print}
use Rattle.drd_svcb.specs.declared.svcb.SVCB.{SVCB}

-- Parameters, each behind a space.
abbrev pub params_print : List Param → List ℕ
params_print params = flat_map (λ param. space ∷ param_print param) params

-- The priority, the target and the parameters.
abbrev pub svcb_print : SVCB → List ℕ
svcb_print svcb =
    decimal svcb.svc_priority ++ space ∷ name_print svcb.target_name
    ++ params_print svcb.svc_params.items
