-- What of a value is fed to a hasher: the same where values are equal.
use Rattle.std.specs.Prelude.{ℕ, List, [], ◌∷◌, ◌++◌, drop, length}
use Rattle.std.specs.Hash as fed
use Rattle.std.specs.Hash.{HashWrites}
use Rattle.std.specs.List.{flat_map}
use Rattle.std.specs.String.{string_bytes}
use Rattle.drd_param_keys.specs.Keys.{key_number}
use Rattle.drd_params.specs.dnw_decoder.Octets.{octets_16}
use Rattle.drd_params.specs.drd_fields.Order.{string_input}
use Rattle.drd_params.specs.drd_fields.Writing.{string_octets}
use Rattle.drd_params.specs.AddressEntries.{a_octets, aaaa_octets}
use Rattle.drd_params.specs.declared.value.SvcParamValue.{SvcParamValue}
use Rattle.drd_params.specs.declared.value.SvcParamValue.TheVariants as value

-- Octets of an entry in one write.
abbrev pub one_write : List ℕ → HashWrites
one_write octets = octets ∷ []

-- A string without the octet of its length, behind its length.
abbrev pub string_write : List ℕ → HashWrites
string_write octets = string_input (drop 1 octets)

-- The number of entries, and each.
abbrev pub list_input : {T : Type 0} → (T → HashWrites) → List T → HashWrites
list_input fed_entry entries = fed.usize (length entries) ++ flat_map fed_entry entries

-- The entries of a list, a port's octets, or octets as they are.
abbrev pub value_input : SvcParamValue → HashWrites
value_input (value.Mandatory mandatory) =
    list_input (λ k. one_write (octets_16 (key_number k))) mandatory.0.items
value_input (value.Alpn alpn) =
    list_input (λ text. string_write (string_octets (string_bytes text))) alpn.0.items
value_input value.NoDefaultAlpn = []
value_input (value.Port port) = one_write (octets_16 port)
value_input (value.Ipv4Hint hint) = list_input (λ a. one_write (a_octets a)) hint.0.items
value_input (value.EchConfigList ech) = string_input ech.0.items
value_input (value.Ipv6Hint hint) = list_input (λ a. one_write (aaaa_octets a)) hint.0.items
value_input (value.Unknown unknown) = string_input unknown.0.items
