-- The octets of a number of 32 bits.
use Rattle.std.proofs.Common.{◌≡◌, ℕ, refl}
use Rattle.std.specs.Int.{w32, to_be_bytes}
use Rattle.drd_params.specs.dnw_decoder.Octets.{octets_32}

pub octets_of_32 : (n : ℕ) → octets_32 n ≡ to_be_bytes w32 n
unfolding octets_32
octets_of_32 n = refl
