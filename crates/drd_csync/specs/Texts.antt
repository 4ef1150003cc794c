-- The texts of the data of a CSYNC record (RFC 7477 2.1.2).
use Rattle.std.specs.Prelude.{ℕ, ◌≡◌, ◌==◌, ◌<◌, ◌≤◌, ◌⊎◌, List, ◌∷◌, ◌++◌, Some, codes}
use Rattle.std.specs.Fmt.{decimal}
use Rattle.std.specs.List.{flat_map, list_any}
use Rattle.drd_words.specs.dnw_codes.Ascii.{space}
use Rattle.dnw_wire.specs.dnw_codes.RecordType.{record_type_number, record_type_of, record_type_of_text, record_type_text}
use Rattle.drd_words.specs.dnw_codes.declared.error.ParseError.{ParseError}
use Rattle.drd_words.specs.dnw_codes.declared.error.ParseError.TheVariants.{UnknownRecordType}
use Rattle.dnw_wire.specs.dnw_codes.declared.record_type.RecordType.{RecordType}
use Rattle.drd_words.specs.Word.{IsNumberWord}
use Rattle.drd_words.specs.Refusals.{IsMessage, RefusesEach, RefusesNumber, RefusesOneThen}
use Rattle.drd_words.specs.Words.{OneThen, EachWord}
use Rattle.drd_csync.specs.declared.csync.CSYNC.{CSYNC}
use Rattle.drd_csync.specs.Data.{csync_flags}

-- The types by rising number, each behind a space.
abbrev pub types_print : List ℕ → List ℕ
types_print types = flat_map (λ code. space ∷ record_type_text (record_type_of code)) types

-- The serial number, the flags and the types.
abbrev pub csync_print : CSYNC → List ℕ
csync_print csync =
    decimal csync.soa_serial ++ space ∷ decimal (csync_flags csync)
    ++ types_print csync.type_bit_maps

-- A word is the text of a type, in capitals.
abbrev pub IsTypeWord : RecordType → List ℕ → Type 0
IsTypeWord record_type word = record_type_of_text word ≡ Some record_type

-- These types, in any order and as often as one likes, and no others.
pub record IsSetOf (given : List RecordType) (types : List ℕ) : Type 0 where
  pub same : (code : ℕ)
      → list_any (λ c. c == code) types ≡ list_any (λ t. record_type_number t == code) given

-- A word for each type, in any order.
abbrev pub AreTypeWords : List ℕ → List (List ℕ) → Type 0
AreTypeWords types words =
    (given : List RecordType) × EachWord IsTypeWord given words × IsSetOf given types

-- A word that is the text of no type.
abbrev pub RefusesType : List ℕ → ParseError → Type 0
RefusesType word e =
    (e ≡ UnknownRecordType) × ((record_type : RecordType) → IsTypeWord record_type word → ⊥)

-- The words up to some word are types, and that word is none.
abbrev pub RefusesTypes : List (List ℕ) → ParseError → Type 0
RefusesTypes words e = RefusesEach IsTypeWord RefusesType words e

-- The number of flags of which no more than the lower two are set (RFC 7477 2.1.1.2).
abbrev pub IsFlagsWord : ℕ → List ℕ → Type 0
IsFlagsWord flags word = IsNumberWord 16 flags word × (flags ≤ 3)

-- A word that is no number, and one of other flags.
abbrev pub RefusesFlags : List ℕ → ParseError → Type 0
RefusesFlags word e =
    RefusesNumber 16 word e
    ⊎ (IsMessage (codes "CSYNC flags are at most 3") e
    × ((flags : ℕ) × IsNumberWord 16 flags word × (3 < flags)))

-- RFC 7477 2.1.2: the serial number, the flags as a number, and the types.
abbrev pub IsCsyncText : List (List ℕ) → CSYNC → Type 0
IsCsyncText words csync =
    OneThen (IsNumberWord 32 csync.soa_serial)
    (OneThen (IsNumberWord 16 (csync_flags csync)) (AreTypeWords csync.type_bit_maps)) words

-- Words that aren't those, by the first that is missing or unfit.
abbrev pub RefusesCsyncText : List (List ℕ) → ParseError → Type 0
RefusesCsyncText =
    RefusesOneThen (IsNumberWord 32) (RefusesNumber 32)
    (RefusesOneThen IsFlagsWord RefusesFlags RefusesTypes)
