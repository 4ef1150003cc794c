-- Which addresses may ask, by the networks that are allowed and those that are denied.
use Rattle.std.specs.Prelude.{ℕ, ◌-◌, ◌/◌, ◌%◌, ◌^◌, ◌==◌, ◌||◌, Bool, true, false, not, nat_lt, if◌then◌else◌, [], Option, Some, None}
use Rattle.std.specs.Net.Addr.{ipv4_bits, ipv6_bits}
use Rattle.std.specs.declared.net.ip_addr.IpAddr.{IpAddr}
use Rattle.std.specs.declared.net.ip_addr.IpAddr.TheVariants.{V4, V6}
use Rattle.zsv_access.specs.declared.access.AccessControl.{AccessControl}
use Rattle.zsv_access.specs.declared.access.InnerAccessControl.{InnerAccessControl}
use Rattle.zsv_access.specs.declared.prefix_set.Prefix.{Prefix}
use Rattle.zsv_access.specs.Prefixes.{is_empty, longest, prefix_of, with_prefix}

-- The answer where the longest denied and the longest allowed network that hold an address are so
-- long: the longer one decides, the denied one if they are equally long. Where none holds it, the
-- answer is the other one.
abbrev pub longer_decides : Option ℕ → Option ℕ → Bool → Bool
longer_decides (Some denied) (Some allowed) other = nat_lt denied allowed
longer_decides (Some denied) None other = false
longer_decides None (Some allowed) other = true
longer_decides None None other = other

-- Whether the networks of one kind allow an address of so many bits. One that none of them holds is
-- refused only where some are allowed, and none denied.
abbrev pub allows : InnerAccessControl → ℕ → ℕ → Bool
allows networks width addr =
    longer_decides (longest width addr networks.deny) (longest width addr networks.allow)
    (is_empty networks.allow || not (is_empty networks.deny))

-- Whether an address may ask. An IPv4 address that is mapped to an IPv6 address, behind 80 bits of
-- 0 and 16 of 1, counts as IPv4 (RFC 4291 2.5.5.2).
abbrev pub is_allowed : AccessControl → IpAddr → Bool
is_allowed access (V4 ip) = allows access.ipv4 32 (ipv4_bits ip)
is_allowed access (V6 ip) =
    if ipv6_bits ip / 2 ^ 32 == 2 ^ 16 - 1 then allows access.ipv4 32 (ipv6_bits ip % 2 ^ 32)
    else allows access.ipv6 128 (ipv6_bits ip)

-- No networks.
abbrev pub no_networks : AccessControl
no_networks = record {
  ipv4 = record { allow = []; deny = [] };
  ipv6 = record { allow = []; deny = [] };
}

-- The first bits of a network's address, those that its addresses share.
abbrev pub network_prefix : IpAddr → ℕ → Prefix
network_prefix (V4 ip) len = prefix_of 32 (ipv4_bits ip) len
network_prefix (V6 ip) len = prefix_of 128 (ipv6_bits ip) len

-- The networks of one kind, with one more that is allowed, or denied.
abbrev allowing : InnerAccessControl → Prefix → InnerAccessControl
allowing networks prefix = record networks { allow = with_prefix networks.allow prefix }

abbrev denying : InnerAccessControl → Prefix → InnerAccessControl
denying networks prefix = record networks { deny = with_prefix networks.deny prefix }

-- The networks, with one more that is allowed, or denied.
abbrev pub with_allowed : AccessControl → IpAddr → ℕ → AccessControl
with_allowed access (V4 ip) len =
    record access { ipv4 = allowing access.ipv4 (network_prefix (V4 ip) len) }
with_allowed access (V6 ip) len =
    record access { ipv6 = allowing access.ipv6 (network_prefix (V6 ip) len) }

abbrev pub with_denied : AccessControl → IpAddr → ℕ → AccessControl
with_denied access (V4 ip) len =
    record access { ipv4 = denying access.ipv4 (network_prefix (V4 ip) len) }
with_denied access (V6 ip) len =
    record access { ipv6 = denying access.ipv6 (network_prefix (V6 ip) len) }
