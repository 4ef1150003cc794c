-- Names of addresses (RFC 1035 3.5, RFC 3596 2.5).
use Rattle.std.specs.Prelude.{ℕ, ◌≡◌, ◌+◌, ◌*◌, ◌++◌, ◌⊎◌, true, List, [], ◌∷◌, reverse, flat_map, codes}
use Rattle.std.specs.Net.Addr.{ipv4_octets, ipv6_octets}
use Rattle.std.specs.declared.net.ip_addr.IpAddr.{IpAddr}
use Rattle.std.specs.declared.net.ip_addr.IpAddr.TheVariants.{V4, V6}
use Rattle.dnw_net.specs.dnw_codes.ProtoError.{IsMessage}
use Rattle.dnw_net.specs.dnw_codes.declared.error.ProtoError.{ProtoError}
use Rattle.dnw_net.specs.dnw_codes.declared.error.ProtoError.TheVariants.{ParseInt}
use Rattle.dnw_net.specs.dnw_label.Label.{label_eq}
use Rattle.dnw_net.specs.Networks.{address_bits}
use Rattle.dnw_name.specs.DomainName.{DomainName, domain_name, name_eq}
use Rattle.dnw_net.specs.ArpaLabels.{v4_labels, v6_labels, label_bits, IsAddress, zero_labels}

-- The name of an address, its last octet first.
abbrev pub arpa_name : IpAddr → DomainName
arpa_name (V4 a) =
    domain_name true
    (flat_map v4_labels (reverse (ipv4_octets a)) ++ codes "in-addr" ∷ codes "arpa" ∷ [])
arpa_name (V6 a) =
    domain_name true
    (flat_map v6_labels (reverse (ipv6_octets a)) ++ codes "ip6" ∷ codes "arpa" ∷ [])

-- The name of a network is that of its first address without the labels behind its prefix, which
-- are `0`: with them it is the name of the address.
pub record IsArpaName (name : DomainName) (addr : IpAddr) (prefix : ℕ) : Type 0 where
  pub missing : ℕ
  pub bits : prefix + label_bits addr * missing ≡ address_bits addr
  pub address : IsAddress addr
  pub named : name_eq (domain_name name.fqdn (zero_labels missing ++ name.labels)) (arpa_name addr)
      ≡ true

-- The name ends in `arpa.`, behind this label and those below it.
pub record EndsInArpa (name : DomainName) (below : List (List ℕ)) (kind : List ℕ) : Type 0 where
  pub fqdn : name.fqdn ≡ true
  pub top : List ℕ
  pub labels : name.labels ≡ below ++ kind ∷ top ∷ []
  pub arpa : label_eq top (codes "arpa") ≡ true

-- The name ends in `in-addr.arpa.` (RFC 1035 3.5) or in `ip6.arpa.` (RFC 3596 2.5).
abbrev pub EndsInZone : DomainName → Type 0
EndsInZone name =
    (below : List (List ℕ)) × (kind : List ℕ) × EndsInArpa name below kind
    × ((label_eq kind (codes "in-addr") ≡ true) ⊎ (label_eq kind (codes "ip6") ≡ true))

-- The name ends otherwise, which a message says, or it does and is that of no network.
abbrev pub RefusesArpaName : DomainName → ProtoError → Type 0
RefusesArpaName name e =
    (IsMessage e × (EndsInZone name → ⊥))
    ⊎ ((e ≡ ParseInt) × EndsInZone name
    × ((addr : IpAddr) (prefix : ℕ) → IsArpaName name addr prefix → ⊥))
