-- When parameters are equal.
use Rattle.std.specs.Prelude.{ℕ, nat_le, List, [], ◌∷◌, length, if◌then◌else◌}
use Rattle.std.specs.List.{flat_map}
use Rattle.drd_params.specs.drd_fields.Fields.{Field, short, rest}
use Rattle.drd_param_keys.specs.Keys.{key_number}
use Rattle.drd_params.specs.Params.{Param}
use Rattle.drd_params.specs.Values.{value_octets}
use Rattle.drd_params.specs.declared.value.SvcParamValue.{SvcParamValue}
use Rattle.drd_params.specs.declared.value.SvcParamValue.TheVariants as value

-- The kinds of values, each by a number.
abbrev pub value_kind : SvcParamValue → ℕ
value_kind (value.Mandatory mandatory) = 0
value_kind (value.Alpn alpn) = 1
value_kind value.NoDefaultAlpn = 2
value_kind (value.Port port) = 3
value_kind (value.Ipv4Hint hint) = 4
value_kind (value.EchConfigList ech) = 5
value_kind (value.Ipv6Hint hint) = 6
value_kind (value.Unknown unknown) = 7

-- How many octets there are, as far as two octets tell; one more for all that are longer (RFC 9460
-- 2.2).
abbrev pub told_length : List ℕ → ℕ
told_length octets = if nat_le (length octets) 65535 then length octets else 65536

-- What two equal values share: their kind and their octets, behind their number.
abbrev pub value_code : SvcParamValue → List Field
value_code value =
    short (value_kind value) ∷ short (told_length (value_octets value)) ∷ rest (value_octets value)
    ∷ []

-- What two equal parameters share: their key's number, and what equal values do.
abbrev pub param_code : Param → List Field
param_code param = short (key_number param.0) ∷ value_code param.1

abbrev pub params_code : List Param → List Field
params_code params = flat_map param_code params
