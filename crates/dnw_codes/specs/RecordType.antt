-- Types of resource records, their numbers and texts (RFC 1035 3.2.2; RFC 3597 5).
use Rattle.std.specs.Prelude.{ℕ, Bool, ◌==◌, ◌++◌, List, [], ◌∷◌, Option, unwrap_or, codes, find}
use Rattle.std.specs.Fmt.{decimal}
use Rattle.std.specs.List.{list_any}
use Rattle.std.specs.Option.{option_or, option_map}
use Rattle.std.specs.Ordering.{on, nat_cmp}
use Rattle.std.specs.declared.cmp.Ordering.{Ordering}
use Rattle.std.specs.Str.{bytes_eq}
use Rattle.dnw_codes.specs.Digits.{number_behind}
use Rattle.dnw_codes.specs.declared.record_type.RecordType.{RecordType}
use Rattle.dnw_codes.specs.declared.record_type.RecordType.TheVariants.{ZERO, A, NS, CNAME, SOA, NULL, PTR, HINFO, MX, TXT, SIG, KEY, AAAA, SRV, NAPTR, CERT, DNAME, OPT, DS, SSHFP, RRSIG, NSEC, DNSKEY, NSEC3, NSEC3PARAM, TLSA, SMIMEA, CDS, CDNSKEY, OPENPGPKEY, CSYNC, SVCB, HTTPS, TSIG, IXFR, AXFR, ANY, CAA, ANAME, Unknown}

-- The number that stands for a type in a message.
abbrev pub record_type_number : RecordType → ℕ
record_type_number ZERO = 0
record_type_number A = 1
record_type_number NS = 2
record_type_number CNAME = 5
record_type_number SOA = 6
record_type_number NULL = 10
record_type_number PTR = 12
record_type_number HINFO = 13
record_type_number MX = 15
record_type_number TXT = 16
record_type_number SIG = 24
record_type_number KEY = 25
record_type_number AAAA = 28
record_type_number SRV = 33
record_type_number NAPTR = 35
record_type_number CERT = 37
record_type_number DNAME = 39
record_type_number OPT = 41
record_type_number DS = 43
record_type_number SSHFP = 44
record_type_number RRSIG = 46
record_type_number NSEC = 47
record_type_number DNSKEY = 48
record_type_number NSEC3 = 50
record_type_number NSEC3PARAM = 51
record_type_number TLSA = 52
record_type_number SMIMEA = 53
record_type_number CDS = 59
record_type_number CDNSKEY = 60
record_type_number OPENPGPKEY = 61
record_type_number CSYNC = 62
record_type_number SVCB = 64
record_type_number HTTPS = 65
record_type_number TSIG = 250
record_type_number IXFR = 251
record_type_number AXFR = 252
record_type_number ANY = 255
record_type_number CAA = 257
record_type_number ANAME = 65305
record_type_number (Unknown number) = number

-- The types that have a name, by rising number.
abbrev pub named_record_types : List RecordType
named_record_types =
    ZERO ∷ A ∷ NS ∷ CNAME ∷ SOA ∷ NULL ∷ PTR ∷ HINFO ∷ MX ∷ TXT ∷ SIG ∷ KEY ∷ AAAA ∷ SRV ∷ NAPTR
    ∷ CERT ∷ DNAME ∷ OPT ∷ DS ∷ SSHFP ∷ RRSIG ∷ NSEC ∷ DNSKEY ∷ NSEC3 ∷ NSEC3PARAM ∷ TLSA ∷ SMIMEA
    ∷ CDS ∷ CDNSKEY ∷ OPENPGPKEY ∷ CSYNC ∷ SVCB ∷ HTTPS ∷ TSIG ∷ IXFR ∷ AXFR ∷ ANY ∷ CAA ∷ ANAME
    ∷ []

-- The type that a number stands for.
abbrev pub record_type_of : ℕ → RecordType
record_type_of number =
    unwrap_or (find (λ named. record_type_number named == number) named_record_types)
    (Unknown number)

-- A type's name; the others have one together.
abbrev pub record_type_name : RecordType → List ℕ
record_type_name ZERO = codes "ZERO"
record_type_name A = codes "A"
record_type_name NS = codes "NS"
record_type_name CNAME = codes "CNAME"
record_type_name SOA = codes "SOA"
record_type_name NULL = codes "NULL"
record_type_name PTR = codes "PTR"
record_type_name HINFO = codes "HINFO"
record_type_name MX = codes "MX"
record_type_name TXT = codes "TXT"
record_type_name SIG = codes "SIG"
record_type_name KEY = codes "KEY"
record_type_name AAAA = codes "AAAA"
record_type_name SRV = codes "SRV"
record_type_name NAPTR = codes "NAPTR"
record_type_name CERT = codes "CERT"
record_type_name DNAME = codes "DNAME"
record_type_name OPT = codes "OPT"
record_type_name DS = codes "DS"
record_type_name SSHFP = codes "SSHFP"
record_type_name RRSIG = codes "RRSIG"
record_type_name NSEC = codes "NSEC"
record_type_name DNSKEY = codes "DNSKEY"
record_type_name NSEC3 = codes "NSEC3"
record_type_name NSEC3PARAM = codes "NSEC3PARAM"
record_type_name TLSA = codes "TLSA"
record_type_name SMIMEA = codes "SMIMEA"
record_type_name CDS = codes "CDS"
record_type_name CDNSKEY = codes "CDNSKEY"
record_type_name OPENPGPKEY = codes "OPENPGPKEY"
record_type_name CSYNC = codes "CSYNC"
record_type_name SVCB = codes "SVCB"
record_type_name HTTPS = codes "HTTPS"
record_type_name TSIG = codes "TSIG"
record_type_name IXFR = codes "IXFR"
record_type_name AXFR = codes "AXFR"
record_type_name ANY = codes "ANY"
record_type_name CAA = codes "CAA"
record_type_name ANAME = codes "ANAME"
record_type_name (Unknown number) = codes "UNKNOWN"

-- A type's text: its name, or `TYPE` and its number (RFC 3597 5).
abbrev pub record_type_text : RecordType → List ℕ
record_type_text (Unknown number) = codes "TYPE" ++ decimal number
record_type_text named = record_type_name named

-- Two types are the same where their numbers are.
abbrev pub same_record_type : RecordType → RecordType → Bool
same_record_type = on record_type_number ◌==◌

-- Types in the order of their numbers.
abbrev pub record_type_cmp : RecordType → RecordType → Ordering
record_type_cmp = on record_type_number nat_cmp

-- The type of a text: the one of that name, or the one of the number behind `TYPE` (RFC 3597 5).
abbrev pub record_type_of_text : List ℕ → Option RecordType
record_type_of_text text =
    option_or
    (find (λ named. bytes_eq (record_type_name named) text) named_record_types)
    (option_map record_type_of (number_behind (codes "TYPE") text))

-- The types of a DNSSEC record (RFC 4034, RFC 5155, RFC 7344, RFC 2930, RFC 2931).
abbrev pub is_dnssec_type : RecordType → Bool
is_dnssec_type record_type =
    list_any (same_record_type record_type)
    (CDNSKEY ∷ CDS ∷ DNSKEY ∷ DS ∷ KEY ∷ NSEC ∷ NSEC3 ∷ NSEC3PARAM ∷ RRSIG ∷ SIG ∷ TSIG ∷ [])
