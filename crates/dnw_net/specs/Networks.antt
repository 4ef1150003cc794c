-- Blocks of addresses that share their first bits (RFC 4632 3.1, RFC 4291 2.3).
use Rattle.std.specs.Prelude.{ℕ, ◌-◌, ◌/◌, ◌^◌, ◌==◌, Bool, false}
use Rattle.std.specs.Net.Addr.{ipv4_bits, ipv6_bits}
use Rattle.std.specs.declared.net.ip_addr.IpAddr.{IpAddr}
use Rattle.std.specs.declared.net.ip_addr.IpAddr.TheVariants.{V4, V6}

-- The bits of an address of this kind.
abbrev pub address_bits : IpAddr → ℕ
address_bits (V4 a) = 32
address_bits (V6 a) = 128

-- The address is of the network's kind, and their first bits are the same.
abbrev pub in_network : IpAddr → ℕ → IpAddr → Bool
in_network (V4 n) prefix (V4 a) = ipv4_bits a / 2 ^ (32 - prefix) == ipv4_bits n / 2 ^ (32 - prefix)
in_network (V6 n) prefix (V6 a) =
    ipv6_bits a / 2 ^ (128 - prefix) == ipv6_bits n / 2 ^ (128 - prefix)
in_network (V4 n) prefix (V6 a) = false
in_network (V6 n) prefix (V4 a) = false
