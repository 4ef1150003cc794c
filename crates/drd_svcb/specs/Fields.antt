-- The fields of SVCB data (RFC 9460 2.2).
use Rattle.std.specs.Prelude.{ℕ, List, [], ◌∷◌}
use Rattle.drd_params.specs.dnw_name.DomainName.{DomainName}
use Rattle.drd_params.specs.drd_fields.Fields.{Field, short, name, rest, Kind, a_short, a_name, the_rest}
use Rattle.drd_params.specs.Equality.{params_code}
use Rattle.drd_params.specs.Params.{params_octets}
use Rattle.drd_svcb.specs.declared.svcb.SVCB.{SVCB}

-- The priority, the target, and octets that are to be parameters.
abbrev pub svcb_parts : ℕ → DomainName → List ℕ → List Field
svcb_parts priority target octets = short priority ∷ name target ∷ rest octets ∷ []

abbrev pub svcb_fields : SVCB → List Field
svcb_fields svcb =
    svcb_parts svcb.svc_priority svcb.target_name (params_octets svcb.svc_params.items)

abbrev pub svcb_kinds : List Kind
svcb_kinds = a_short ∷ a_name ∷ the_rest ∷ []

-- What equal data share.
abbrev pub svcb_code : SVCB → List Field
svcb_code svcb = short svcb.svc_priority ∷ name svcb.target_name ∷ params_code svcb.svc_params.items
