-- The texts of keys and protocols (RFC 9460 2.1, 7), and why a text is none.
use Rattle.std.specs.Prelude.{ℕ, ◌≡◌, ◌<◌, ◌≤◌, ◌⊎◌, List, length, Some, String, codes}
use Rattle.std.specs.String.{string_bytes}
use Rattle.std.specs.declared.alloc.Global.{Global}
use Rattle.drd_words.specs.dnw_codes.declared.error.ParseError.{ParseError}
use Rattle.drd_words.specs.dnw_codes.declared.error.ParseError.TheVariants.{UnexpectedToken}
use Rattle.drd_words.specs.Refusals.{IsMessage}
use Rattle.drd_param_keys.specs.Keys.{key_of_text}
use Rattle.drd_param_keys.specs.declared.key.SvcParamKey.{SvcParamKey}

-- A key's name, or `key` and its number.
abbrev pub IsKeyText : SvcParamKey → List ℕ → Type 0
IsKeyText k text = key_of_text text ≡ Some k

-- A text that is no key.
abbrev pub RefusesKeyText : List ℕ → ParseError → Type 0
RefusesKeyText text e = (e ≡ UnexpectedToken) × ((k : SvcParamKey) → IsKeyText k text → ⊥)

-- A protocol's octets as they are, 1 to 255 of them (RFC 9460 7.1).
abbrev pub IsProtocolText : String Global → List ℕ → Type 0
IsProtocolText protocol text =
    (string_bytes protocol ≡ text) × (0 < length text) × (length text ≤ 255)

-- A text without octets, and one of too many.
abbrev pub RefusesProtocolText : List ℕ → ParseError → Type 0
RefusesProtocolText text e =
    (IsMessage (codes "a protocol has at least one octet") e × (length text ≡ 0))
    ⊎ (IsMessage (codes "a protocol has at most 255 octets") e × (255 < length text))
