-- Why SVCB data are not read.
use Rattle.std.specs.Prelude.{ℕ, ◌≡◌, ◌+◌, List, length}
use Rattle.std.proofs.Common.{◌⊎◌}
use Rattle.drd_params.specs.dnw_codes.declared.error.DecodeError.{DecodeError}
use Rattle.drd_params.specs.dnw_decoder.Reading.{IsWantOfMemory}
use Rattle.drd_params.specs.dnw_name.DomainName.{DomainName}
use Rattle.drd_params.specs.drd_fields.Fields.{FieldsAt}
use Rattle.drd_params.specs.drd_fields.Reading.{StopsReading}
use Rattle.drd_params.specs.Params.{RefusesParams}
use Rattle.drd_svcb.specs.Fields.{svcb_kinds, svcb_parts}

-- The octets behind the target are refused as parameters, and reading stops before those that are
-- left, or a growth was refused.
abbrev pub HasNoParams : List ℕ → ℕ → ℕ → DecodeError → ℕ → Type 0
HasNoParams message place end e at =
    (priority : ℕ) × (target : DomainName) × (octets : List ℕ)
    × FieldsAt message place (svcb_parts priority target octets) end
    × (left : ℕ) × (at + left ≡ end)
    × (IsWantOfMemory e
    ⊎ ((behind : List ℕ) × RefusesParams octets e behind × (length behind ≡ left)))

-- A field can't be read, or all stand and the last one holds no parameters.
abbrev pub RefusesSvcb : List ℕ → ℕ → ℕ → DecodeError → ℕ → Type 0
RefusesSvcb message place end e at =
    StopsReading message end svcb_kinds place e at ⊎ HasNoParams message place end e at
