-- Numbers in texts: decimal digits alone, without a sign.
use Rattle.std.specs.Prelude.{ℕ, ◌&&◌, nat_lt, if◌then◌else◌, List, Option, Some, None, length, drop, nat_eq}
use Rattle.std.specs.List.{starts_with}
use Rattle.std.specs.Str.{all_ascii_digits}
use Rattle.std.specs.Str.Parse.{digits_value}

-- The number of one or more decimal digits, where 16 bits hold it.
abbrev pub number_of_digits : List ℕ → Option ℕ
number_of_digits digits =
    if all_ascii_digits digits && nat_lt 0 (length digits) && nat_lt (digits_value 10 digits) 65536
    then Some (digits_value 10 digits)
    else None

-- The number of the digits behind a word.
abbrev pub number_behind : List ℕ → List ℕ → Option ℕ
number_behind word text =
    if starts_with nat_eq text word then number_of_digits (drop (length word) text) else None
