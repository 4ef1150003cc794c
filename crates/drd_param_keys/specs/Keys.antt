-- Keys of parameters, their numbers and texts (RFC 9460 2.1, 14.3.2).
use Rattle.std.specs.Prelude.{ℕ, ◌≡◌, ◌<◌, ◌==◌, ◌&&◌, nat_le, ◌++◌, Bool, List, [], ◌∷◌, Option, if◌then◌else◌, unwrap_or, codes, find}
use Rattle.std.specs.Fmt.{decimal}
use Rattle.std.specs.Option.{option_or, option_map}
use Rattle.std.specs.Ordering.{on, nat_cmp}
use Rattle.std.specs.Str.{bytes_eq}
use Rattle.std.specs.declared.cmp.Ordering.{Ordering}
use Rattle.drd_words.specs.dnw_codes.Digits.{number_behind}
use Rattle.dnw_encoder.specs.dnw_decoder.Octets.{Stands, octets_16}
use Rattle.drd_param_keys.specs.declared.key.SvcParamKey.{SvcParamKey}
use Rattle.drd_param_keys.specs.declared.key.SvcParamKey.TheVariants.{Mandatory, Alpn, NoDefaultAlpn, Port, Ipv4Hint, EchConfigList, Ipv6Hint, Key, Key65535, Unknown}

-- The number that stands for a key in a message.
abbrev pub key_number : SvcParamKey → ℕ
key_number Mandatory = 0
key_number Alpn = 1
key_number NoDefaultAlpn = 2
key_number Port = 3
key_number Ipv4Hint = 4
key_number EchConfigList = 5
key_number Ipv6Hint = 6
key_number Key65535 = 65535
key_number (Key number) = number
key_number (Unknown number) = number

-- The keys that have a name, by rising number.
abbrev pub named_keys : List SvcParamKey
named_keys =
    Mandatory ∷ Alpn ∷ NoDefaultAlpn ∷ Port ∷ Ipv4Hint ∷ EchConfigList ∷ Ipv6Hint ∷ Key65535 ∷ []

-- The key that a number stands for.
abbrev pub key_of : ℕ → SvcParamKey
key_of number =
    unwrap_or (find (λ named. key_number named == number) named_keys)
    (if nat_le 65280 number && nat_le number 65534 then Key number else Unknown number)

-- A key is the one of its number, which 16 bits hold.
pub record IsKey (key : SvcParamKey) : Type 0 where
  pub small : key_number key < 65536
  pub one : key ≡ key_of (key_number key)

-- A key's name; those without one have the front of their text.
abbrev pub key_name : SvcParamKey → List ℕ
key_name Mandatory = codes "mandatory"
key_name Alpn = codes "alpn"
key_name NoDefaultAlpn = codes "no-default-alpn"
key_name Port = codes "port"
key_name Ipv4Hint = codes "ipv4hint"
key_name EchConfigList = codes "ech"
key_name Ipv6Hint = codes "ipv6hint"
key_name Key65535 = codes "key65535"
key_name (Key number) = codes "key"
key_name (Unknown number) = codes "key"

-- A key's text: its name, or `key` and its number.
abbrev pub key_text : SvcParamKey → List ℕ
key_text (Key number) = codes "key" ++ decimal number
key_text (Unknown number) = codes "key" ++ decimal number
key_text named = key_name named

-- Two keys are the same where their numbers are.
abbrev pub same_key : SvcParamKey → SvcParamKey → Bool
same_key = on key_number ◌==◌

-- Keys in the order of their numbers.
abbrev pub key_cmp : SvcParamKey → SvcParamKey → Ordering
key_cmp = on key_number nat_cmp

-- The key of a text: the one of that name, or the one of the number behind `key`.
abbrev pub key_of_text : List ℕ → Option SvcParamKey
key_of_text text =
    option_or
    (find (λ named. bytes_eq (key_name named) text) named_keys)
    (option_map key_of (number_behind (codes "key") text))

-- The key whose number stands there.
pub record KeyAt (message : List ℕ) (place : ℕ) (key : SvcParamKey) (end : ℕ) : Type 0 where
  pub there : Stands message place (octets_16 (key_number key)) end
  pub small : key_number key < 65536
  pub one : key ≡ key_of (key_number key)
