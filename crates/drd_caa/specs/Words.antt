-- The words that CAA data are read from (RFC 8659 4.1.1).
use Rattle.std.specs.Prelude.{ℕ, ◌≡◌, ◌<◌, true, List}
use lib.Chars.{codes}
use Rattle.drd_words.specs.dnw_codes.declared.error.ParseError.{ParseError}
use Rattle.drd_words.specs.Refusals.{RefusesMore, RefusesNumber, RefusesOneThen, RefusesUnless}
use Rattle.drd_words.specs.Word.{IsNumberWord}
use Rattle.drd_words.specs.Words.{NoWords, OneThen}
use Rattle.drd_caa.specs.declared.caa.CAA.{CAA}
use Rattle.drd_caa.specs.Fields.{caa_flags, is_caa_tag}

-- The tag's letters and digits.
abbrev pub IsTagWord : List ℕ → List ℕ → Type 0
IsTagWord tag word = (tag ≡ word) × (is_caa_tag word ≡ true)

-- A word that is no tag.
abbrev pub RefusesTag : List ℕ → ParseError → Type 0
RefusesTag word =
    RefusesUnless (is_caa_tag word) (codes "a CAA tag is 1 to 15 letters and digits") (λ e. ⊥)

-- The value's octets, of any number: no octet before them counts them.
abbrev pub IsValueWord : List ℕ → List ℕ → Type 0
IsValueWord value word = value ≡ word

-- The flags as a number, of which seven bits are reserved, the tag and the value.
abbrev pub IsCaaText : List (List ℕ) → CAA → Type 0
IsCaaText words caa =
    (caa.reserved_flags < 128)
    × OneThen (IsNumberWord 8 (caa_flags caa))
    (OneThen (IsTagWord caa.tag.items) (OneThen (IsValueWord caa.value.items) NoWords)) words

abbrev pub RefusesCaaText : List (List ℕ) → ParseError → Type 0
RefusesCaaText =
    RefusesOneThen (IsNumberWord 8) (RefusesNumber 8)
    (RefusesOneThen IsTagWord RefusesTag
    (RefusesOneThen IsValueWord (λ word e. ⊥) RefusesMore))
