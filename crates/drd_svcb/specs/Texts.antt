-- The texts of parameters and of the data (RFC 9460 2.1).
use Rattle.std.specs.Prelude.{ℕ, ◌≡◌, ◌≢◌, ◌<◌, ◌==◌, List, [], ◌∷◌, ◌++◌, length, Option}
use Rattle.std.proofs.Common.{◌⊎◌}
use Rattle.std.specs.List.{before_first, after_first}
use Rattle.drd_params.specs.dnw_name.DomainName.{DomainName}
use Rattle.drd_params.specs.drd_words.Data.{IsBase64Text}
use Rattle.drd_params.specs.drd_words.Escapes.{EscapedText}
use Rattle.drd_params.specs.drd_words.Word.{IsNumberWord, IsNameWord}
use Rattle.drd_params.specs.drd_words.Words.{OneThen, EachWord}
use Rattle.drd_param_keys.specs.ListTexts.{IsListText}
use Rattle.drd_params.specs.Params.{Param, AreParams}
use Rattle.drd_param_keys.specs.Texts.{IsKeyText, IsProtocolText}
use Rattle.drd_params.specs.AddressEntries.{IsAEntry, IsAaaaEntry}
use Rattle.drd_param_keys.specs.declared.key.SvcParamKey.{SvcParamKey}
use Rattle.drd_param_keys.specs.declared.key.SvcParamKey.TheVariants as key
use Rattle.drd_params.specs.declared.value.SvcParamValue.{SvcParamValue}
use Rattle.drd_params.specs.declared.value.SvcParamValue.TheVariants as value
use Rattle.drd_svcb.specs.declared.svcb.SVCB.{SVCB}
use Rattle.drd_param_keys.specs.Words.{IsUnquoted, is_equals}

-- What the value of a key is written as: lists by commas, a port in decimal digits, configurations
-- in base64, and the octets of a key without a form of its own as a text with escapes.
abbrev pub IsValueText : SvcParamKey → SvcParamValue → List ℕ → Type 0
IsValueText key.Mandatory (value.Mandatory mandatory) text =
    IsListText IsKeyText mandatory.0.items text
IsValueText key.Alpn (value.Alpn alpn) text = IsListText IsProtocolText alpn.0.items text
IsValueText key.NoDefaultAlpn value.NoDefaultAlpn text = length text ≡ 0
IsValueText key.Port (value.Port port) text = IsNumberWord 16 port text
IsValueText key.Ipv4Hint (value.Ipv4Hint hint) text = IsListText IsAEntry hint.0.items text
IsValueText key.EchConfigList (value.EchConfigList ech) text =
    (0 < length text) × IsBase64Text ech.0.items text
IsValueText key.Ipv6Hint (value.Ipv6Hint hint) text = IsListText IsAaaaEntry hint.0.items text
IsValueText (key.Key number) (value.Unknown unknown) text = EscapedText text unknown.0.items
IsValueText key.Key65535 (value.Unknown unknown) text = EscapedText text unknown.0.items
IsValueText (key.Unknown number) (value.Unknown unknown) text = EscapedText text unknown.0.items
IsValueText other another text = ⊥

-- A key, and behind `=` the text of its value, which quotes may stand around. A key alone has the
-- empty text.
pub record IsParamText (param : Param) (word : List ℕ) : Type 0 where
  pub key : IsKeyText param.0 (before_first is_equals word)
  pub text : List ℕ
  pub quotes : IsUnquoted (after_first is_equals word) text
  pub value : IsValueText param.0 param.1 text

-- A word for each parameter of a record, whose keys rise strictly as in its octets.
abbrev pub AreParamTexts : List Param → List (List ℕ) → Type 0
AreParamTexts params words = EachWord IsParamText params words × AreParams params

-- The priority, the target, completed by the origin if it is relative, and the parameters.
abbrev pub IsSvcbText : List (List ℕ) → Option DomainName → SVCB → Type 0
IsSvcbText words origin svcb =
    OneThen (IsNumberWord 16 svcb.svc_priority)
    (OneThen (IsNameWord origin svcb.target_name) (AreParamTexts svcb.svc_params.items)) words
