-- Printed parameters (RFC 9460 2.1, appendix A).
use Rattle.std.specs.Prelude.{ℕ, List, [], ◌∷◌, ◌++◌}
use Rattle.std.specs.Fmt.{decimal}
use Rattle.std.specs.String.{string_bytes}
use Rattle.drd_params.specs.dnw_codes.Ascii.{equals_sign}
use Rattle.base64.specs.Engines.{standard}
use Rattle.base64.specs.GeneralPurpose.{encode_of}
use Rattle.drd_params.specs.AddressPrint.{a_print, aaaa_print}
use Rattle.drd_params.specs.drd_words.Print.{escaped_print}
use Rattle.drd_param_keys.specs.Keys.{key_text}
use Rattle.drd_params.specs.Params.{Param}
use Rattle.drd_params.specs.declared.value.SvcParamValue.{SvcParamValue}
use Rattle.drd_params.specs.declared.value.SvcParamValue.TheVariants as value
use Rattle.drd_param_keys.specs.ListTexts.{listed}

-- Lists by commas, configurations in base64, and other octets as in a text between quotes.
abbrev pub value_print : SvcParamValue → List ℕ
value_print (value.Mandatory mandatory) = listed key_text mandatory.0.items
value_print (value.Alpn alpn) = listed string_bytes alpn.0.items
value_print value.NoDefaultAlpn = []
value_print (value.Port port) = decimal port
value_print (value.Ipv4Hint hint) = listed a_print hint.0.items
value_print (value.EchConfigList ech) = encode_of standard ech.0.items
value_print (value.Ipv6Hint hint) = listed aaaa_print hint.0.items
value_print (value.Unknown unknown) = escaped_print unknown.0.items

-- `=` and a value; nothing for the value without octets.
abbrev pub value_behind : SvcParamValue → List ℕ
value_behind value.NoDefaultAlpn = []
value_behind value = equals_sign ∷ value_print value

-- A key and its value.
abbrev pub param_print : Param → List ℕ
param_print param = key_text param.0 ++ value_behind param.1
