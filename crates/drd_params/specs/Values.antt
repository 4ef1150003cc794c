-- Values of parameters, and the octets of both (RFC 9460 2.2, 7, 8).
use Rattle.std.specs.Prelude.{ℕ, ◌<◌, List, [], length, All}
use Rattle.std.specs.List.{flat_map}
use Rattle.drd_params.specs.dnw_decoder.Octets.{octets_16}
use Rattle.drd_param_keys.specs.Keys.{IsKey}
use Rattle.drd_param_keys.specs.declared.key.SvcParamKey.{SvcParamKey}
use Rattle.drd_param_keys.specs.declared.key.SvcParamKey.TheVariants as key
use Rattle.drd_params.specs.declared.value.SvcParamValue.{SvcParamValue}
use Rattle.drd_params.specs.declared.value.SvcParamValue.TheVariants as value
use Rattle.drd_param_keys.specs.Entries.{IsShortText, key_octets, text_octets}
use Rattle.drd_params.specs.AddressEntries.{a_octets, aaaa_octets}

-- The octets of a value: keys, strings behind their lengths, a port, addresses, or octets as they
-- are.
abbrev pub value_octets : SvcParamValue → List ℕ
value_octets (value.Mandatory mandatory) = flat_map key_octets mandatory.0.items
value_octets (value.Alpn alpn) = flat_map text_octets alpn.0.items
value_octets value.NoDefaultAlpn = []
value_octets (value.Port port) = octets_16 port
value_octets (value.Ipv4Hint hint) = flat_map a_octets hint.0.items
value_octets (value.EchConfigList ech) = ech.0.items
value_octets (value.Ipv6Hint hint) = flat_map aaaa_octets hint.0.items
value_octets (value.Unknown unknown) = unknown.0.items

abbrev pub IsUnknown : SvcParamValue → Type 0
IsUnknown (value.Unknown unknown) = Unit {0}
IsUnknown other = ⊥

-- A value is one of its key. Lists of keys and of protocols are not empty, each key is the one of
-- its number, and a protocol has at most 255 octets.
abbrev pub IsValueOf : SvcParamKey → SvcParamValue → Type 0
IsValueOf key.Mandatory (value.Mandatory mandatory) =
    (0 < length mandatory.0.items) × All IsKey mandatory.0.items
IsValueOf key.Alpn (value.Alpn alpn) = (0 < length alpn.0.items) × All IsShortText alpn.0.items
IsValueOf key.NoDefaultAlpn value.NoDefaultAlpn = Unit {0}
IsValueOf key.Port (value.Port port) = Unit {0}
IsValueOf key.Ipv4Hint (value.Ipv4Hint hint) = Unit {0}
IsValueOf key.EchConfigList (value.EchConfigList ech) = Unit {0}
IsValueOf key.Ipv6Hint (value.Ipv6Hint hint) = Unit {0}
IsValueOf (key.Key number) value = IsUnknown value
IsValueOf key.Key65535 value = IsUnknown value
IsValueOf (key.Unknown number) value = IsUnknown value
IsValueOf other another = ⊥
