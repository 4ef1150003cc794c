-- The number of an address made of it.
use Rattle.std.proofs.Common.{◌≡◌, ℕ, ◌^◌, ◌<◌, ap, ◌∙◌}
use Rattle.std.specs.Int.{w32, from_be_bytes}
use Rattle.std.specs.declared.net.ipv4_addr.Ipv4Addr.{Ipv4Addr}
use Rattle.std.specs.Net.Addr.{ipv4_bits, IsIpv4OfBits}
use Rattle.std.proofs.lemmas.Nat.{from_be_bytes-to_be_bytes_4}

pub bits_back : (a : Ipv4Addr) (n : ℕ) → n < 2 ^ 32 → IsIpv4OfBits a n → ipv4_bits a ≡ n
unfolding IsIpv4OfBits ipv4_bits
bits_back a n small is = ap (from_be_bytes w32) is ∙ from_be_bytes-to_be_bytes_4 n small
