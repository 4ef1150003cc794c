-- Serial numbers (RFC 1982, with 32 bits).
use Rattle.std.specs.Prelude.{ℕ, ◌+◌, ◌-◌, ◌%◌, ◌^◌, ◌<◌}

-- How far one number is ahead of another, on the circle of 32 bits.
abbrev pub serial_distance : ℕ → ℕ → ℕ
serial_distance from to = (2 ^ 32 + to - from) % 2 ^ 32

-- RFC 1982 3.2: a number is less than those up to 2^31 - 1 ahead of it.
abbrev pub IsSerialLess : ℕ → ℕ → Type 0
IsSerialLess a b = (0 < serial_distance a b) × (serial_distance a b < 2 ^ 31)
