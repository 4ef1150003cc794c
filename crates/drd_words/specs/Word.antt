-- What one word of record data stands for (RFC 1035 5.1). A word is its octets.
use Rattle.std.specs.Prelude.{ℕ, ◌≡◌, ◌<◌, ◌≤◌, ◌^◌, ℤ, pos, Bool, List, length, Option}
use Rattle.std.specs.Char.{is_ascii_alphanumeric}
use Rattle.std.specs.List.{list_all}
use Rattle.std.specs.Str.Parse.{digits_value}
use Rattle.dnw_lexer.specs.dnw_codes.declared.error.ParseError.{ParseError}
use Rattle.dnw_lexer.specs.dnw_codes.declared.error.ParseError.TheVariants.{Memory}
use Rattle.dnw_lexer.specs.Ttl.{IsNumber, TtlText}
use Rattle.dnw_name.specs.DomainName.{DomainName, IsDomainName}
use Rattle.dnw_name.specs.NameText.{NameText, complete_name}

-- A growth was refused.
abbrev pub IsOutOfMemory : ParseError → Type 0
IsOutOfMemory (Memory cause) = Unit {0}
IsOutOfMemory other = ⊥

-- Decimal digits alone, at least one, of a number below 2 to the power of so many bits.
abbrev pub IsNumberWord : ℕ → ℕ → List ℕ → Type 0
IsNumberWord bits n word = IsNumber word × (digits_value 10 word ≡ n) × (n < 2 ^ bits)

-- A time to live: seconds, or groups of digits and a unit (RFC 2181 8 for its bound, which is that
-- of 32 bits).
abbrev pub IsTtlWord : ℕ → List ℕ → Type 0
IsTtlWord seconds word = TtlText word seconds × (seconds < 2 ^ 32)

-- A time interval that 31 bits hold, written as a time to live.
abbrev pub IsIntervalWord : ℤ → List ℕ → Type 0
IsIntervalWord interval word =
    (seconds : ℕ) × TtlText word seconds × (seconds < 2 ^ 31) × (interval ≡ pos seconds)

-- A name, completed by the origin if it is relative.
abbrev pub IsNameWord : Option DomainName → DomainName → List ℕ → Type 0
IsNameWord origin name word =
    (read : DomainName) × NameText word read × (name ≡ complete_name read origin)
    × IsDomainName name

-- A character string (RFC 1035 3.3): the word's octets, at most 255.
abbrev pub IsStringWord : List ℕ → List ℕ → Type 0
IsStringWord octets word = (octets ≡ word) × (length word ≤ 255)

-- ASCII letters and digits alone.
abbrev pub are_alphanumeric : List ℕ → Bool
are_alphanumeric octets = list_all is_ascii_alphanumeric octets
