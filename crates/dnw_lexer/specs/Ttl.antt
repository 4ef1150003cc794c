-- Times to live in texts: decimal digits, or groups of digits and a unit.
use Rattle.std.specs.Prelude.{ℕ, ◌≡◌, ◌+◌, ◌*◌, ◌<◌, ◌++◌, true, false, List, [], ◌∷◌, Option, Some, None, length, ◌==◌, ◌||◌, if◌then◌else◌}
use Rattle.std.specs.Char.{is_ascii_digit}
use Rattle.std.specs.Str.{all_ascii_digits}
use Rattle.std.specs.Str.Parse.{digits_value}
use Rattle.dnw_codes.specs.Ascii.{lower_d, lower_h, lower_m, lower_s, lower_w, upper_d, upper_h, upper_m, upper_s, upper_w}

-- The seconds of a unit: a second, a minute, an hour, a day or a week, in either case.
abbrev pub unit_seconds : ℕ → Option ℕ
unit_seconds c =
    if c == upper_s || c == lower_s then Some 1
    else (if c == upper_m || c == lower_m then Some 60
    else (if c == upper_h || c == lower_h then Some 3600
    else (if c == upper_d || c == lower_d then Some 86400
    else (if c == upper_w || c == lower_w then Some 604800 else None))))

-- At least one decimal digit.
pub record IsNumber (digits : List ℕ) : Type 0 where
  pub some : 0 < length digits
  pub all : all_ascii_digits digits ≡ true

-- No digit stands next.
abbrev pub NoDigit : List ℕ → Type 0
NoDigit [] = Unit {0}
NoDigit (c ∷ cs) = is_ascii_digit c ≡ false

-- The digits at a text's front, which may be none, the number that they write, and what stands
-- behind them.
pub record DigitsAt (text : List ℕ) (n : ℕ) (behind : List ℕ) : Type 0 where
  pub digits : List ℕ
  pub all : all_ascii_digits digits ≡ true
  pub parts : text ≡ digits ++ behind
  pub value : digits_value 10 digits ≡ n
  pub whole : NoDigit behind

-- The text begins with this number, which takes all the digits at its front.
pub record NumberAt (text : List ℕ) (n : ℕ) (behind : List ℕ) : Type 0 where
  pub digits : List ℕ
  pub number : IsNumber digits
  pub parts : text ≡ digits ++ behind
  pub value : digits_value 10 digits ≡ n
  pub whole : NoDigit behind

-- The seconds of a text: the sum of its groups. The last group may lack its unit.
pub data TtlText : List ℕ → ℕ → Type 0 where
  last : (digits : List ℕ) → IsNumber digits → TtlText digits (digits_value 10 digits)
  unit : (digits : List ℕ) (c seconds : ℕ) → IsNumber digits → unit_seconds c ≡ Some seconds
      → TtlText (digits ++ c ∷ []) (digits_value 10 digits * seconds)
  more : (digits : List ℕ) (c seconds : ℕ) (rest : List ℕ) (n : ℕ) → IsNumber digits
      → unit_seconds c ≡ Some seconds → TtlText rest n
      → TtlText (digits ++ c ∷ rest) (digits_value 10 digits * seconds + n)
