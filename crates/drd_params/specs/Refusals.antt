-- Why octets are no value of a key, and no parameters.
use Rattle.std.specs.Prelude.{ℕ, ◌≡◌, ◌<◌, List, length}
use Rattle.std.proofs.Common.{◌⊎◌}
use Rattle.drd_params.specs.dnw_codes.declared.error.DecodeError.{DecodeError}
use Rattle.drd_params.specs.dnw_codes.declared.error.DecodeError.TheVariants.{IncorrectRDataLengthRead}
use Rattle.drd_param_keys.specs.Lists.{IsMissing}
use Rattle.drd_params.specs.Values.{IsValueOf, value_octets}
use Rattle.drd_params.specs.AddressEntries.{a_octets, aaaa_octets}
use Rattle.drd_param_keys.specs.Entries.{key_octets, text_octets, IsShortOf, RefusesNext, RefusesText}
use Rattle.drd_param_keys.specs.declared.key.SvcParamKey.{SvcParamKey}
use Rattle.drd_param_keys.specs.declared.key.SvcParamKey.TheVariants as key
use Rattle.drd_params.specs.declared.value.SvcParamValue.{SvcParamValue}

-- Octets stand behind those that are wanted.
abbrev pub HasMore : ℕ → List ℕ → DecodeError → Type 0
HasMore wanted octets e =
    (e ≡ IncorrectRDataLengthRead wanted (length octets)) × (wanted < length octets)

-- Keys or protocols are missing. Behind whole ones a key, a string or an address is cut, or a
-- string is no UTF-8. A port is cut, or octets stand behind it, or where there are to be none.
abbrev pub RefusesValue : SvcParamKey → List ℕ → DecodeError → Type 0
RefusesValue key.Mandatory octets e =
    IsMissing octets e ⊎ RefusesNext key_octets (IsShortOf 2) octets e
RefusesValue key.Alpn octets e = IsMissing octets e ⊎ RefusesNext text_octets RefusesText octets e
RefusesValue key.NoDefaultAlpn octets e = HasMore 0 octets e
RefusesValue key.Port octets e = IsShortOf 2 octets e ⊎ HasMore 2 octets e
RefusesValue key.Ipv4Hint octets e = RefusesNext a_octets (IsShortOf 4) octets e
RefusesValue key.Ipv6Hint octets e = RefusesNext aaaa_octets (IsShortOf 16) octets e
RefusesValue other octets e = ⊥

-- The octets are refused as a value of a key, and are none.
abbrev pub NoValue : SvcParamKey → List ℕ → DecodeError → Type 0
NoValue key octets e =
    RefusesValue key octets e
    × ((value : SvcParamValue) → IsValueOf key value → value_octets value ≡ octets → ⊥)
