-- Octets of a message: what stands where (RFC 1035 2.3.2: the most significant octet of a number
-- comes first).
use Rattle.std.specs.Prelude.{◌≡◌, ℕ, ◌+◌, ◌*◌, List, ◌++◌, length, drop, get_or}
use Rattle.std.specs.Int.{w16, w32, to_be_bytes}

-- A number of 16 bits in two octets, of 32 bits in four.
abbrev pub octets_16 : ℕ → List ℕ
octets_16 n = to_be_bytes w16 n

unfoldable pub octets_32 : ℕ → List ℕ
octets_32 n = to_be_bytes w32 n

-- The number in the two octets at a place.
abbrev pub number_16 : List ℕ → ℕ → ℕ
number_16 message place = 256 * get_or message place 0 + get_or message (place + 1) 0

-- These octets stand in the message from a place on, and end behind them.
pub record Stands (message : List ℕ) (place : ℕ) (octets : List ℕ) (end : ℕ) : Type 0 where
  pub there : drop place message ≡ octets ++ drop end message
  pub behind : end ≡ place + length octets
