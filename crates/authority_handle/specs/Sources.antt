-- Addresses and networks as octets.
use Rattle.std.specs.Prelude.{◌≡◌, ◌<◌, ◌≤◌, ◌*◌, ◌⊎◌, ℕ, if◌then◌else◌, List, [], ◌∷◌, length, take}
use Rattle.std.specs.Net.Addr.{ipv4_octets, ipv6_segments, segments_of}
use Rattle.std.specs.Net.Socket.{socket_ip, socket_port}
use Rattle.std.specs.declared.net.SocketAddr.{SocketAddr}
use Rattle.std.specs.declared.net.ip_addr.IpAddr.{IpAddr}
use Rattle.std.specs.declared.net.ip_addr.IpAddr.TheVariants as addresses
use Rattle.authority_handle.specs.declared.refusal.Refusal.{Refusal}
use Rattle.authority_handle.specs.declared.refusal.Refusal.TheVariants as refusals
use Rattle.authority_handle.specs.declared.sources.Network.{Network}
use Rattle.authority_server.specs.zsv_access.Access.{with_allowed, with_denied}
use Rattle.authority_server.specs.zsv_access.declared.access.AccessControl.{AccessControl}

-- An address of 4 or 16 octets.
abbrev pub IsAddress : List ℕ → IpAddr → Type 0
IsAddress octets (addresses.V4 address) = ipv4_octets address ≡ octets
IsAddress octets (addresses.V6 address) =
    (length octets ≡ 16) × (ipv6_segments address ≡ segments_of octets)

-- Neither 4 nor 16 octets.
abbrev pub IsNoAddress : List ℕ → Type 0
IsNoAddress octets = (length octets ≡ 4 → ⊥) × (length octets ≡ 16 → ⊥)

-- A source of this address and port.
pub record IsSource (octets : List ℕ) (port : ℕ) (source : SocketAddr) : Type 0 where
  pub address : IsAddress octets (socket_ip source)
  pub from_port : socket_port source ≡ port

-- ---- networks
-- The octets of the address.
abbrev pub octets_in : Network → List ℕ
octets_in network = take network.address_len network.address

-- An address, and a prefix that isn't longer (RFC 4632, section 3.1; RFC 4291, section 2.3).
pub record IsNetwork (network : Network) (address : IpAddr) : Type 0 where
  pub octets : IsAddress (octets_in network) address
  pub whole : network.address_len ≤ 16
  pub prefix : network.prefix_len ≤ 8 * length (octets_in network)

-- The access list with one more network, denied or allowed.
abbrev pub with_network : AccessControl → Network → IpAddr → AccessControl
with_network access network address =
    if network.denied then with_denied access address network.prefix_len
    else with_allowed access address network.prefix_len

-- The access list with these networks, added in order.
abbrev pub AddsNetworks : AccessControl → List Network → AccessControl → Type 0
AddsNetworks access [] end = end ≡ access
AddsNetworks access (network ∷ later) end =
    (address : IpAddr) × IsNetwork network address
    × AddsNetworks (with_network access network address) later end

-- All networks are valid.
abbrev pub AreNetworks : List Network → Type 0
AreNetworks [] = Unit {0}
AreNetworks (network ∷ later) =
    ((address : IpAddr) × IsNetwork network address) × AreNetworks later

-- Why a network is refused: its address has neither 4 nor 16 octets, or its prefix is longer.
abbrev pub RefusesNetwork : Network → Refusal → Type 0
RefusesNetwork network refusals.WrongAddress =
    (network.address_len ≡ 4 → ⊥) × (network.address_len ≡ 16 → ⊥)
RefusesNetwork network refusals.WrongSetting =
    ((network.address_len ≡ 4) ⊎ (network.address_len ≡ 16))
    × (8 * network.address_len < network.prefix_len)
RefusesNetwork network other = ⊥

-- The first invalid network is refused.
abbrev pub RefusesFirst : List Network → Refusal → Type 0
RefusesFirst [] refusal = ⊥
RefusesFirst (network ∷ later) refusal =
    RefusesNetwork network refusal
    ⊎ (((address : IpAddr) × IsNetwork network address) × RefusesFirst later refusal)

-- Why networks are refused: one is invalid, or else out of memory.
abbrev pub RefusesNetworks : List Network → Refusal → Type 0
RefusesNetworks networks refusals.OutOfMemory = (0 < length networks) × AreNetworks networks
RefusesNetworks networks other = RefusesFirst networks other
