-- What of SVCB data is fed to a hasher.
use Rattle.std.specs.Prelude.{◌∷◌, [], ◌++◌}
use Rattle.std.specs.Hash.{HashWrites}
use Rattle.drd_params.specs.drd_fields.Fields.{short, name}
use Rattle.drd_params.specs.drd_fields.Order.{fields_input}
use Rattle.drd_svcb.specs.ParamsHashing.{params_input}
use Rattle.drd_svcb.specs.declared.svcb.SVCB.{SVCB}

-- The priority, the target and the parameters.
abbrev pub svcb_input : SVCB → HashWrites
svcb_input svcb =
    fields_input (short svcb.svc_priority ∷ name svcb.target_name ∷ [])
    ++ params_input svcb.svc_params.items
