-- Parameters, one behind the other (RFC 9460 2.2).
use Rattle.std.specs.Prelude.{ℕ, ◌≡◌, ◌≤◌, ◌<◌, ◌+◌, List, [], ◌∷◌, ◌++◌, length}
use Rattle.std.proofs.Common.{◌⊎◌}
use Rattle.std.specs.List.{flat_map}
use Rattle.drd_params.specs.dnw_codes.declared.error.DecodeError.{DecodeError}
use Rattle.drd_params.specs.dnw_codes.declared.error.DecodeError.TheVariants.{InsufficientBytes, SvcParamsOutOfOrder}
use Rattle.drd_params.specs.dnw_decoder.Octets.{octets_16}
use Rattle.drd_param_keys.specs.Keys.{key_number, key_of}
use Rattle.drd_params.specs.Values.{IsValueOf, value_octets}
use Rattle.drd_params.specs.Refusals.{NoValue}
use Rattle.drd_param_keys.specs.declared.key.SvcParamKey.{SvcParamKey}
use Rattle.drd_params.specs.declared.value.SvcParamValue.{SvcParamValue}

abbrev pub Param : Type 0
Param = SvcParamKey × SvcParamValue

-- A number, the length of a value, and the value.
abbrev pub part_octets : ℕ → List ℕ → List ℕ
part_octets number value = octets_16 number ++ octets_16 (length value) ++ value

abbrev pub param_octets : Param → List ℕ
param_octets param = part_octets (key_number param.0) (value_octets param.1)

abbrev pub params_octets : List Param → List ℕ
params_octets params = flat_map param_octets params

-- A key by its number, with a value of its own of at most 65,535 octets.
pub record IsParam (param : Param) : Type 0 where
  pub number : key_number param.0 < 65536
  pub key : param.0 ≡ key_of (key_number param.0)
  pub value : IsValueOf param.0 param.1
  pub few : length (value_octets param.1) < 65536

-- Parameters whose keys rise strictly, from a number on to one above the last key.
abbrev pub Rise : ℕ → List Param → ℕ → Type 0
Rise least [] above = above ≡ least
Rise least (param ∷ params) above =
    IsParam param × (least ≤ key_number param.0) × Rise (key_number param.0 + 1) params above

-- The parameters of a record.
abbrev pub AreParams : List Param → Type 0
AreParams params = (above : ℕ) × Rise 0 params above

-- Octets end inside the first parameter, whatever it is.
abbrev pub BeginsNoPart : List ℕ → Type 0
BeginsNoPart octets =
    (number : ℕ) (value behind : List ℕ) → length value < 65536
    → octets ≡ part_octets number value ++ behind → ⊥

-- The first parameter is whole, and its value is refused as one of its key.
pub record HasNoValue (octets : List ℕ) (e : DecodeError) (behind : List ℕ) : Type 0 where
  pub number : ℕ
  pub value : List ℕ
  pub small : number < 65536
  pub few : length value < 65536
  pub there : octets ≡ part_octets number value ++ behind
  pub cause : NoValue (key_of number) value e

-- The first parameter is cut, and all octets are left, or its value is refused, and those behind it
-- are left.
abbrev pub RefusesParam : List ℕ → DecodeError → List ℕ → Type 0
RefusesParam octets e behind =
    ((e ≡ InsufficientBytes) × BeginsNoPart octets × (behind ≡ octets))
    ⊎ HasNoValue octets e behind

-- The first parameter is refused, and octets begin with none.
abbrev pub NoParam : List ℕ → DecodeError → List ℕ → Type 0
NoParam octets e behind =
    RefusesParam octets e behind
    × ((param : Param) (after : List ℕ) → IsParam param → octets ≡ param_octets param ++ after → ⊥)

-- A key is below the least one that may stand there; the octets behind its value are left.
abbrev pub IsOutOfOrder : ℕ → List ℕ → DecodeError → List ℕ → Type 0
IsOutOfOrder least octets e behind =
    (e ≡ SvcParamsOutOfOrder)
    × (param : Param) × IsParam param × (octets ≡ param_octets param ++ behind)
    × (key_number param.0 < least)

-- Behind parameters whose keys rise, some octets are left. The first parameter there is refused, or
-- its key is out of order.
pub record RefusesParams (octets : List ℕ) (e : DecodeError) (behind : List ℕ) : Type 0 where
  pub front : List Param
  pub rest : List ℕ
  pub least : ℕ
  pub rise : Rise 0 front least
  pub parts : params_octets front ++ rest ≡ octets
  pub some : 0 < length rest
  pub cause : RefusesParam rest e behind ⊎ IsOutOfOrder least rest e behind

-- The octets are refused as parameters, and are none.
abbrev pub NoParams : List ℕ → DecodeError → List ℕ → Type 0
NoParams octets e behind =
    RefusesParams octets e behind
    × ((params : List Param) → AreParams params → params_octets params ≡ octets → ⊥)
