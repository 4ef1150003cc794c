-- The characters that texts of DNS give a meaning, by name, and what they mean in all of them
-- (RFC 20; RFC 1035 5.1).
use Rattle.std.specs.Prelude.{ℕ, ◌+◌, ◌*◌, ◌-◌, ◌==◌, ◌&&◌, ◌||◌, nat_le, Bool}

abbrev pub tab : ℕ
tab = 9

abbrev pub line_feed : ℕ
line_feed = 10

abbrev pub carriage_return : ℕ
carriage_return = 13

-- ` `
abbrev pub space : ℕ
space = 32

-- `"`
abbrev pub double_quote : ℕ
double_quote = 34

-- `(`
abbrev pub open_parenthesis : ℕ
open_parenthesis = 40

-- `)`
abbrev pub close_parenthesis : ℕ
close_parenthesis = 41

-- `*`
abbrev pub asterisk : ℕ
asterisk = 42

-- `+`
abbrev pub plus_sign : ℕ
plus_sign = 43

-- `,`
abbrev pub comma : ℕ
comma = 44

-- `-`
abbrev pub hyphen : ℕ
hyphen = 45

-- `.`
abbrev pub full_stop : ℕ
full_stop = 46

-- `/`
abbrev pub slash_sign : ℕ
slash_sign = 47

-- `0`
abbrev pub digit_zero : ℕ
digit_zero = 48

-- `7`
abbrev pub digit_seven : ℕ
digit_seven = 55

-- `;`
abbrev pub semicolon : ℕ
semicolon = 59

-- `=`
abbrev pub equals_sign : ℕ
equals_sign = 61

-- `\`
abbrev pub backslash : ℕ
backslash = 92

-- `_`
abbrev pub underscore : ℕ
underscore = 95

-- `D`
abbrev pub upper_d : ℕ
upper_d = 68

-- `H`
abbrev pub upper_h : ℕ
upper_h = 72

-- `M`
abbrev pub upper_m : ℕ
upper_m = 77

-- `S`
abbrev pub upper_s : ℕ
upper_s = 83

-- `W`
abbrev pub upper_w : ℕ
upper_w = 87

-- `d`
abbrev pub lower_d : ℕ
lower_d = 100

-- `h`
abbrev pub lower_h : ℕ
lower_h = 104

-- `m`
abbrev pub lower_m : ℕ
lower_m = 109

-- `s`
abbrev pub lower_s : ℕ
lower_s = 115

-- `w`
abbrev pub lower_w : ℕ
lower_w = 119

-- A space or a tab.
abbrev pub is_blank : ℕ → Bool
is_blank c = c == space || c == tab

abbrev pub is_octal : ℕ → Bool
is_octal c = nat_le digit_zero c && nat_le c digit_seven

-- The number that three octal digits write.
abbrev pub octal_value : ℕ → ℕ → ℕ → ℕ
octal_value a b c =
    64 * (a - digit_zero) + 8 * (b - digit_zero) + (c - digit_zero)
