-- Why words are refused as parameters, and as the data (RFC 9460 2.1).
use Rattle.std.specs.Prelude.{ℕ, ◌≡◌, ◌<◌, ◌≤◌, ◌+◌, List, [], ◌∷◌, length, Option}
use Rattle.std.proofs.Common.{◌⊎◌}
use Rattle.std.specs.List.{before_first, after_first}
use lib.Chars.{codes}
use Rattle.drd_params.specs.dnw_codes.declared.error.ParseError.{ParseError}
use Rattle.drd_params.specs.dnw_codes.declared.error.ParseError.TheVariants.{UnexpectedToken}
use Rattle.drd_params.specs.dnw_name.DomainName.{DomainName}
use Rattle.drd_params.specs.drd_words.Escapes.{RefusesEscapes}
use Rattle.drd_params.specs.drd_words.Refusals.{IsMessage, RefusesIpv4, RefusesIpv6, RefusesNameWord, RefusesNumber, RefusesOneThen}
use Rattle.drd_params.specs.drd_words.Word.{IsNameWord, IsNumberWord}
use Rattle.drd_param_keys.specs.Keys.{key_number}
use Rattle.drd_params.specs.Params.{Param, IsParam}
use Rattle.drd_param_keys.specs.Texts.{IsKeyText, RefusesKeyText, IsProtocolText, RefusesProtocolText}
use Rattle.drd_params.specs.AddressEntries.{IsAEntry, IsAaaaEntry}
use Rattle.drd_params.specs.Values.{value_octets}
use Rattle.drd_param_keys.specs.declared.key.SvcParamKey.{SvcParamKey}
use Rattle.drd_param_keys.specs.declared.key.SvcParamKey.TheVariants as key
use Rattle.drd_param_keys.specs.Words.{is_equals, IsUnquoted, RefusesEch}
use Rattle.drd_svcb.specs.Texts.{IsParamText}
use Rattle.drd_param_keys.specs.ListTexts.{RefusesList}

-- Why a text is no value of a key: by its first entry that is none, or as a whole.
abbrev pub RefusesValueText : SvcParamKey → List ℕ → ParseError → Type 0
RefusesValueText key.Mandatory text e = RefusesList IsKeyText RefusesKeyText text e
RefusesValueText key.Alpn text e = RefusesList IsProtocolText RefusesProtocolText text e
RefusesValueText key.NoDefaultAlpn text e = (e ≡ UnexpectedToken) × (0 < length text)
RefusesValueText key.Port text e = RefusesNumber 16 text e
RefusesValueText key.Ipv4Hint text e = RefusesList IsAEntry RefusesIpv4 text e
RefusesValueText key.EchConfigList text e = RefusesEch text e
RefusesValueText key.Ipv6Hint text e = RefusesList IsAaaaEntry RefusesIpv6 text e
RefusesValueText other text e = RefusesEscapes text e

-- What stands before `=` is a key, and the text behind it is refused as a value of the key.
abbrev pub HasNoValue : List ℕ → ParseError → Type 0
HasNoValue word e =
    (key : SvcParamKey) × IsKeyText key (before_first is_equals word)
    × (text : List ℕ) × IsUnquoted (after_first is_equals word) text × RefusesValueText key text e

-- The octets of the value are more than its length can count.
abbrev pub HasLongValue : List ℕ → ParseError → Type 0
HasLongValue word e =
    IsMessage (codes "a value has at most 65,535 octets") e
    × (param : Param) × IsParamText param word × (65535 < length (value_octets param.1))

-- A word is refused by its key, its value or its length, and is no parameter.
abbrev pub NoParamText : List ℕ → ParseError → Type 0
NoParamText word e =
    (RefusesKeyText (before_first is_equals word) e ⊎ HasNoValue word e ⊎ HasLongValue word e)
    × ((param : Param) → IsParamText param word → IsParam param → ⊥)

-- The words up to some word are parameters whose keys rise from the least one that may stand there,
-- and that word is none, or its key is below the least one that may follow.
abbrev pub RefusesParamTexts : ℕ → List (List ℕ) → ParseError → Type 0
RefusesParamTexts least [] e = ⊥
RefusesParamTexts least (word ∷ words) e =
    NoParamText word e
    ⊎ ((param : Param) × IsParamText param word × IsParam param
    × (((key_number param.0 < least) × IsMessage (codes "the keys of parameters rise") e)
    ⊎ ((least ≤ key_number param.0) × RefusesParamTexts (key_number param.0 + 1) words e)))

-- Words that aren't a priority, a target and parameters, by the first that is missing or unfit.
abbrev pub RefusesSvcbText : List (List ℕ) → Option DomainName → ParseError → Type 0
RefusesSvcbText words origin =
    RefusesOneThen (IsNumberWord 16) (RefusesNumber 16)
    (RefusesOneThen (IsNameWord origin) (RefusesNameWord origin) (RefusesParamTexts 0)) words
