-- Which type record data are of.
use Rattle.std.specs.Prelude.{◌≡◌, Bool, true, false, Option, Some, None}
use Rattle.std.specs.declared.net.ip_addr.IpAddr.{IpAddr}
use Rattle.std.specs.declared.net.ip_addr.IpAddr.TheVariants.{V4, V6}
use Rattle.std.specs.declared.net.ipv4_addr.Ipv4Addr.{Ipv4Addr}
use Rattle.std.specs.declared.net.ipv6_addr.Ipv6Addr.{Ipv6Addr}
use Rattle.drd_types.specs.dnw_codes.declared.record_type.RecordType.{RecordType}
use Rattle.drd_types.specs.dnw_codes.declared.record_type.RecordType.TheVariants as kind
use Rattle.drd_rdata.specs.declared.rdata.RData.{RData}
use Rattle.drd_rdata.specs.declared.rdata.RData.TheVariants as rdata

-- The data are of one variant, and what it holds is so.
abbrev pub Is : {X : Type 0} → (X → RData) → (X → Type 0) → RData → Type 0
Is {X = X} variant Holds value = (x : X) × (value ≡ variant x) × Holds x

-- The type of a record with these data.
abbrev pub type_of : RData → RecordType
type_of (rdata.A a) = kind.A
type_of (rdata.AAAA aaaa) = kind.AAAA
type_of (rdata.ANAME aname) = kind.ANAME
type_of (rdata.CAA caa) = kind.CAA
type_of (rdata.CERT cert) = kind.CERT
type_of (rdata.CNAME cname) = kind.CNAME
type_of (rdata.CSYNC csync) = kind.CSYNC
type_of (rdata.HINFO hinfo) = kind.HINFO
type_of (rdata.HTTPS https) = kind.HTTPS
type_of (rdata.MX mx) = kind.MX
type_of (rdata.NAPTR naptr) = kind.NAPTR
type_of (rdata.NULL null) = kind.NULL
type_of (rdata.NS ns) = kind.NS
type_of (rdata.OPENPGPKEY openpgpkey) = kind.OPENPGPKEY
type_of (rdata.OPT opt) = kind.OPT
type_of (rdata.PTR ptr) = kind.PTR
type_of (rdata.SMIMEA smimea) = kind.SMIMEA
type_of (rdata.SOA soa) = kind.SOA
type_of (rdata.SRV srv) = kind.SRV
type_of (rdata.SSHFP sshfp) = kind.SSHFP
type_of (rdata.SVCB svcb) = kind.SVCB
type_of (rdata.TLSA tlsa) = kind.TLSA
type_of (rdata.TXT txt) = kind.TXT
type_of (rdata.Unknown code null) = code
type_of (rdata.Update0 code) = code
type_of rdata.ZERO = kind.ZERO

-- The address of A and AAAA data.
abbrev pub address_of : RData → Option IpAddr
address_of (rdata.A a) = Some (V4 a.0)
address_of (rdata.AAAA aaaa) = Some (V6 aaaa.0)
address_of other = None

abbrev pub of_ipv4 : Ipv4Addr → RData
of_ipv4 address = rdata.A (record { 0 = address })

abbrev pub of_ipv6 : Ipv6Addr → RData
of_ipv6 address = rdata.AAAA (record { 0 = address })

abbrev pub of_address : IpAddr → RData
of_address (V4 address) = of_ipv4 address
of_address (V6 address) = of_ipv6 address

-- Data of an update, without octets.
abbrev pub is_update0 : RData → Bool
is_update0 (rdata.Update0 code) = true
is_update0 other = false
