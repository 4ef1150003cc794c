-- What values are lists of, in octets (RFC 9460 7.1, 8), and why octets begin with none.
use Rattle.std.specs.Prelude.{ℕ, ◌≡◌, ◌<◌, ◌≤◌, ◌+◌, List, ◌∷◌, ◌++◌, length, get_or, String}
use Rattle.std.proofs.Common.{◌⊎◌}
use Rattle.std.specs.List.{flat_map}
use Rattle.std.specs.Str.{IsUtf8}
use Rattle.std.specs.String.{string_bytes}
use Rattle.std.specs.declared.alloc.Global.{Global}
use Rattle.drd_words.specs.dnw_codes.declared.error.DecodeError.{DecodeError}
use Rattle.drd_words.specs.dnw_codes.declared.error.DecodeError.TheVariants.{InsufficientBytes, Utf8}
use Rattle.dnw_encoder.specs.dnw_decoder.Octets.{octets_16}
use Rattle.drd_param_keys.specs.Keys.{key_number}
use Rattle.drd_param_keys.specs.declared.key.SvcParamKey.{SvcParamKey}

-- The octets of a key, and of a text behind the octet of its length.
abbrev pub key_octets : SvcParamKey → List ℕ
key_octets key = octets_16 (key_number key)

abbrev pub text_octets : String Global → List ℕ
text_octets text = length (string_bytes text) ∷ string_bytes text

-- A text that the octet of its length counts.
abbrev pub IsShortText : String Global → Type 0
IsShortText text = length (string_bytes text) ≤ 255

-- There are fewer octets than are wanted.
abbrev pub IsShortOf : ℕ → List ℕ → DecodeError → Type 0
IsShortOf wanted octets e = (e ≡ InsufficientBytes) × (length octets < wanted)

-- The first string is whole, and no UTF-8.
pub record BeginsNoUtf8 (octets : List ℕ) (e : DecodeError) : Type 0 where
  pub cause : e ≡ Utf8
  pub string : List ℕ
  pub behind : List ℕ
  pub there : octets ≡ length string ∷ (string ++ behind)
  pub other : IsUtf8 string → ⊥

-- The first string is cut, or it is whole and no UTF-8.
abbrev pub RefusesText : List ℕ → DecodeError → Type 0
RefusesText octets e = IsShortOf (1 + get_or octets 0 0) octets e ⊎ BeginsNoUtf8 octets e

-- Some octets stand behind entries, and are refused as the next one.
pub record RefusesNext {T : Type 0} (spelled : T → List ℕ) (stops : List ℕ → DecodeError → Type 0)
    (octets : List ℕ) (e : DecodeError) : Type 0 where
  pub front : List T
  pub rest : List ℕ
  pub parts : flat_map spelled front ++ rest ≡ octets
  pub some : 0 < length rest
  pub cause : stops rest e
