-- The words that record data are read from (RFC 1035 5.1).
use Rattle.std.specs.Prelude.{ℕ, ◌≡◌, true, List, Option}
use lib.Chars.{codes}
use Rattle.drd_words.specs.dnw_codes.declared.error.ParseError.{ParseError}
use Rattle.drd_words.specs.dnw_name.DomainName.{DomainName}
use Rattle.drd_words.specs.Refusals.{RefusesEach, RefusesMore, RefusesNameWord, RefusesNumber, RefusesOneThen, RefusesString, RefusesUnless}
use Rattle.drd_words.specs.Word.{IsNumberWord, IsNameWord, IsStringWord, are_alphanumeric}
use Rattle.drd_words.specs.Words.{NoWords, OneThen, EachWord}
use Rattle.drd_plain.specs.declared.hinfo.HINFO.{HINFO}
use Rattle.drd_plain.specs.declared.naptr.NAPTR.{NAPTR}
use Rattle.drd_plain.specs.declared.txt.TXT.{TXT}
use Rattle.drd_plain.specs.Fields.{txt_strings}

-- RFC 1035 3.3.2: the processor and the operating system.
abbrev pub IsHinfoText : List (List ℕ) → HINFO → Type 0
IsHinfoText words hinfo =
    OneThen (IsStringWord hinfo.cpu.items) (OneThen (IsStringWord hinfo.os.items) NoWords) words

abbrev pub RefusesHinfoText : List (List ℕ) → ParseError → Type 0
RefusesHinfoText =
    RefusesOneThen IsStringWord RefusesString
    (RefusesOneThen IsStringWord RefusesString RefusesMore)

-- RFC 1035 3.3.14: a word for each string.
abbrev pub IsTxtText : List (List ℕ) → TXT → Type 0
IsTxtText words txt = EachWord IsStringWord (txt_strings txt) words

abbrev pub RefusesTxtText : List (List ℕ) → ParseError → Type 0
RefusesTxtText = RefusesEach IsStringWord RefusesString

-- RFC 3403 4.1: flags are ASCII letters and digits, at most 255 of them.
abbrev pub IsFlagsWord : List ℕ → List ℕ → Type 0
IsFlagsWord flags word = IsStringWord flags word × (are_alphanumeric flags ≡ true)

-- A word that is no flags.
abbrev pub RefusesFlags : List ℕ → ParseError → Type 0
RefusesFlags word =
    RefusesUnless (are_alphanumeric word) (codes "flags are ASCII letters and digits")
    (RefusesString word)

-- RFC 3403 4.1: order, preference, flags, services, regexp and replacement.
abbrev pub IsNaptrText : List (List ℕ) → Option DomainName → NAPTR → Type 0
IsNaptrText words origin naptr =
    OneThen (IsNumberWord 16 naptr.order)
    (OneThen (IsNumberWord 16 naptr.preference)
    (OneThen (IsFlagsWord naptr.flags.items)
    (OneThen (IsStringWord naptr.services.items)
    (OneThen (IsStringWord naptr.regexp.items)
    (OneThen (IsNameWord origin naptr.replacement) NoWords))))) words

abbrev pub RefusesNaptrText : List (List ℕ) → Option DomainName → ParseError → Type 0
RefusesNaptrText words origin =
    RefusesOneThen (IsNumberWord 16) (RefusesNumber 16)
    (RefusesOneThen (IsNumberWord 16) (RefusesNumber 16)
    (RefusesOneThen IsFlagsWord RefusesFlags
    (RefusesOneThen IsStringWord RefusesString
    (RefusesOneThen IsStringWord RefusesString
    (RefusesOneThen (IsNameWord origin) (RefusesNameWord origin) RefusesMore))))) words
