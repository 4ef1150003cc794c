-- The network of a client, as the data of an option (RFC 7871 6).
use Rattle.std.specs.Prelude.{◌≡◌, ℕ, ◌+◌, ◌-◌, ◌/◌, min, List, [], ◌∷◌, ◌++◌, length, take, replicate}
use Rattle.std.proofs.Common.{◌⊎◌}
use Rattle.std.specs.Net.Addr.{ipv4_octets, ipv6_octets}
use Rattle.std.specs.declared.net.ip_addr.IpAddr.{IpAddr}
use Rattle.std.specs.declared.net.ip_addr.IpAddr.TheVariants.{V4, V6}
use Rattle.drd_fields.specs.dnw_codes.declared.error.DecodeError.{DecodeError}
use Rattle.drd_fields.specs.dnw_codes.declared.error.DecodeError.TheVariants.{UnknownAddressFamily}
use Rattle.drd_fields.specs.dnw_decoder.Octets.{octets_16, Stands}
use Rattle.drd_fields.specs.dnw_decoder.Reading.{IsCut}
use Rattle.drd_opt.specs.declared.subnet.ClientSubnet.{ClientSubnet}

-- The number of an address's family: 1 for IPv4, 2 for IPv6.
abbrev pub family_of : IpAddr → ℕ
family_of (V4 a) = 1
family_of (V6 a) = 2

abbrev pub address_size : IpAddr → ℕ
address_size (V4 a) = 4
address_size (V6 a) = 16

abbrev pub address_octets : IpAddr → List ℕ
address_octets (V4 a) = ipv4_octets a
address_octets (V6 a) = ipv6_octets a

-- The octets that hold a prefix of so many bits, at most all octets of an address.
abbrev pub prefix_octets : ℕ → ℕ → ℕ
prefix_octets bits size = min ((bits + 7) / 8) size

-- The octets of an address that are written.
abbrev pub prefix_size : IpAddr → ℕ → ℕ
prefix_size address bits = prefix_octets bits (address_size address)

-- The family, the source prefix and the scope prefix.
abbrev pub subnet_head : ℕ → ℕ → ℕ → List ℕ
subnet_head family source scope = octets_16 family ++ source ∷ scope ∷ []

-- Behind them the first octets of the address, as many as hold the source prefix.
abbrev pub subnet_octets : ClientSubnet → List ℕ
subnet_octets subnet =
    subnet_head (family_of subnet.address) subnet.source_prefix subnet.scope_prefix
    ++ take (prefix_size subnet.address subnet.source_prefix) (address_octets subnet.address)

-- As many octets as hold the prefix stand at a place; with zeros behind them they are the address.
pub record AddressAt (message : List ℕ) (place : ℕ) (prefix : ℕ) (address : IpAddr) (end : ℕ) : Type
    0 where
  pub front : List ℕ
  pub long : length front ≡ prefix_size address prefix
  pub there : Stands message place front end
  pub padded : address_octets address ≡ front ++ replicate (address_size address - length front) 0

-- A subnet stands at a place of a message.
abbrev pub SubnetAt : List ℕ → ℕ → ClientSubnet → ℕ → Type 0
SubnetAt message place subnet end =
    Stands message place
    (subnet_head (family_of subnet.address) subnet.source_prefix subnet.scope_prefix) (place + 4)
    × AddressAt message (place + 4) subnet.source_prefix subnet.address end

-- No address of a family can be read at a place: its octets are cut, or there is no such family.
abbrev pub RefusesAddress : List ℕ → ℕ → ℕ → ℕ → DecodeError → Type 0
RefusesAddress message place family prefix e =
    (((family ≡ 1) × IsCut (prefix_octets prefix 4) message place e)
    ⊎ ((family ≡ 2) × IsCut (prefix_octets prefix 16) message place e))
    ⊎ ((e ≡ UnknownAddressFamily family) × (family ≡ 1 → ⊥) × (family ≡ 2 → ⊥))

-- No subnet can be read at a place: the octets before the address are cut, or no address can be
-- read.
abbrev pub RefusesSubnet : List ℕ → ℕ → DecodeError → Type 0
RefusesSubnet message place e =
    IsCut 4 message place e
    ⊎ ((family source scope : ℕ)
    × Stands message place (subnet_head family source scope) (place + 4)
    × RefusesAddress message (place + 4) family source e)
