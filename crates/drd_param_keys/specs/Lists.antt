-- Lists of keys and protocols (RFC 9460 7.1, 8), why octets are none, and why one isn't written.
use Rattle.std.specs.Prelude.{ℕ, ◌≡◌, ◌<◌, List, length, All, String}
use Rattle.std.proofs.Common.{◌⊎◌}
use Rattle.std.specs.List.{Contains, flat_map}
use Rattle.std.specs.declared.alloc.Global.{Global}
use Rattle.drd_param_keys.specs.Writing.{IsLongText}
use Rattle.drd_param_keys.specs.dnw_codes.declared.error.DecodeError.{DecodeError}
use Rattle.drd_param_keys.specs.dnw_codes.declared.error.DecodeError.TheVariants.{SvcParamMissingValue}
use Rattle.drd_param_keys.specs.dnw_codes.declared.error.ProtoError.{ProtoError}
use Rattle.drd_param_keys.specs.Entries.{IsShortOf, IsShortText, RefusesNext, RefusesText, key_octets, text_octets}
use Rattle.drd_param_keys.specs.Keys.{IsKey}
use Rattle.drd_param_keys.specs.declared.key.SvcParamKey.{SvcParamKey}

-- Keys, at least one, each the one of its number.
abbrev pub AreKeys : List SvcParamKey → Type 0
AreKeys keys = (0 < length keys) × All IsKey keys

-- Protocols, at least one, each of at most 255 octets.
abbrev pub AreProtocols : List (String Global) → Type 0
AreProtocols texts = (0 < length texts) × All IsShortText texts

-- There are no octets, where at least one entry is to be.
abbrev pub IsMissing : List ℕ → DecodeError → Type 0
IsMissing octets e = (e ≡ SvcParamMissingValue) × (length octets ≡ 0)

-- Keys are missing, or behind whole ones one is cut.
abbrev pub RefusesKeys : List ℕ → DecodeError → Type 0
RefusesKeys octets e = IsMissing octets e ⊎ RefusesNext key_octets (IsShortOf 2) octets e

-- Protocols are missing, or behind whole ones one is cut or no UTF-8.
abbrev pub RefusesProtocols : List ℕ → DecodeError → Type 0
RefusesProtocols octets e = IsMissing octets e ⊎ RefusesNext text_octets RefusesText octets e

-- The octets are refused as keys, and are none.
abbrev pub NoKeys : List ℕ → DecodeError → Type 0
NoKeys octets e =
    RefusesKeys octets e
    × ((keys : List SvcParamKey) → AreKeys keys → flat_map key_octets keys ≡ octets → ⊥)

-- The octets are refused as protocols, and are none.
abbrev pub NoProtocols : List ℕ → DecodeError → Type 0
NoProtocols octets e =
    RefusesProtocols octets e
    × ((texts : List (String Global)) → AreProtocols texts
    → flat_map text_octets texts ≡ octets → ⊥)

-- A protocol has more than 255 octets, and this one so many.
abbrev pub HasLongProtocol : List (String Global) → ProtoError → Type 0
HasLongProtocol texts e =
    (text : String Global) × Contains texts text × IsLongText text e
