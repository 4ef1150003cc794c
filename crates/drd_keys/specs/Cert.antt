-- The numbers of CERT data (RFC 4398 2.1; RFC 4034 A.1 and its registry).
use Rattle.std.specs.Prelude.{ℕ, ◌≡◌, ◌<◌, ◌^◌, ◌==◌, ◌&&◌, nat_le, Bool, List, [], ◌∷◌, if◌then◌else◌, unwrap_or, find}
use Rattle.std.specs.Ordering.{on}
use Rattle.drd_fields.specs.dnw_decoder.Octets.{octets_16, Stands}
use Rattle.drd_keys.specs.declared.cert.CertType.{CertType}
use Rattle.drd_keys.specs.declared.cert.CertType.TheVariants as cert_type
use Rattle.drd_keys.specs.declared.cert.Algorithm.{Algorithm}
use Rattle.drd_keys.specs.declared.cert.Algorithm.TheVariants as algorithm
use Rattle.drd_keys.specs.declared.cert.CERT.{CERT}

-- The number of the kind of a certificate.
abbrev pub cert_type_number : CertType → ℕ
cert_type_number cert_type.Reserved0 = 0
cert_type_number cert_type.PKIX = 1
cert_type_number cert_type.SPKI = 2
cert_type_number cert_type.PGP = 3
cert_type_number cert_type.IPKIX = 4
cert_type_number cert_type.ISPKI = 5
cert_type_number cert_type.IPGP = 6
cert_type_number cert_type.ACPKIX = 7
cert_type_number cert_type.IACPKIX = 8
cert_type_number cert_type.URI = 253
cert_type_number cert_type.OID = 254
cert_type_number cert_type.Reserved255 = 255
cert_type_number cert_type.Reserved65535 = 65535
cert_type_number (cert_type.Experimental number) = number
cert_type_number (cert_type.Unassigned number) = number

-- The kinds that have a name, by rising number.
abbrev pub named_cert_types : List CertType
named_cert_types =
    cert_type.Reserved0 ∷ cert_type.PKIX ∷ cert_type.SPKI ∷ cert_type.PGP ∷ cert_type.IPKIX
    ∷ cert_type.ISPKI ∷ cert_type.IPGP ∷ cert_type.ACPKIX ∷ cert_type.IACPKIX ∷ cert_type.URI
    ∷ cert_type.OID ∷ cert_type.Reserved255 ∷ cert_type.Reserved65535 ∷ []

-- The kind of a certificate that a number stands for.
abbrev pub cert_type_of : ℕ → CertType
cert_type_of number =
    unwrap_or (find (λ named. cert_type_number named == number) named_cert_types)
    (if nat_le 65280 number
    && nat_le number 65534 then cert_type.Experimental number else cert_type.Unassigned number)

-- Two are the same where their numbers are.
abbrev pub same_cert_type : CertType → CertType → Bool
same_cert_type = on cert_type_number ◌==◌

-- The number of the algorithm of a key.
abbrev pub cert_algorithm_number : Algorithm → ℕ
cert_algorithm_number algorithm.RSAMD5 = 1
cert_algorithm_number algorithm.DH = 2
cert_algorithm_number algorithm.DSA = 3
cert_algorithm_number algorithm.ECC = 4
cert_algorithm_number algorithm.RSASHA1 = 5
cert_algorithm_number algorithm.DSANSEC3SHA1 = 6
cert_algorithm_number algorithm.RSASHA1NSEC3SHA1 = 7
cert_algorithm_number algorithm.RSASHA256 = 8
cert_algorithm_number algorithm.RSASHA512 = 10
cert_algorithm_number algorithm.ECCGOST = 12
cert_algorithm_number algorithm.ECDSAP256SHA256 = 13
cert_algorithm_number algorithm.ECDSAP384SHA384 = 14
cert_algorithm_number algorithm.ED25519 = 15
cert_algorithm_number algorithm.ED448 = 16
cert_algorithm_number algorithm.SM2SM3 = 17
cert_algorithm_number algorithm.ECCGOST12 = 23
cert_algorithm_number algorithm.INDIRECT = 252
cert_algorithm_number algorithm.PRIVATEDNS = 253
cert_algorithm_number algorithm.PRIVATEOID = 254
cert_algorithm_number (algorithm.Reserved number) = number
cert_algorithm_number (algorithm.Unassigned number) = number

-- The algorithms that have a name, and the reserved numbers, by rising number.
abbrev pub named_cert_algorithms : List Algorithm
named_cert_algorithms =
    algorithm.Reserved 0 ∷ algorithm.RSAMD5 ∷ algorithm.DH ∷ algorithm.DSA ∷ algorithm.ECC
    ∷ algorithm.RSASHA1 ∷ algorithm.DSANSEC3SHA1 ∷ algorithm.RSASHA1NSEC3SHA1 ∷ algorithm.RSASHA256
    ∷ algorithm.Reserved 9 ∷ algorithm.RSASHA512 ∷ algorithm.Reserved 11 ∷ algorithm.ECCGOST
    ∷ algorithm.ECDSAP256SHA256 ∷ algorithm.ECDSAP384SHA384 ∷ algorithm.ED25519 ∷ algorithm.ED448
    ∷ algorithm.SM2SM3 ∷ algorithm.ECCGOST12 ∷ algorithm.INDIRECT ∷ algorithm.PRIVATEDNS
    ∷ algorithm.PRIVATEOID ∷ algorithm.Reserved 255 ∷ []

-- The algorithm of a key that a number stands for.
abbrev pub cert_algorithm_of : ℕ → Algorithm
cert_algorithm_of number =
    unwrap_or (find (λ named. cert_algorithm_number named == number) named_cert_algorithms)
    (algorithm.Unassigned number)

-- Two are the same where their numbers are.
abbrev pub same_cert_algorithm : Algorithm → Algorithm → Bool
same_cert_algorithm = on cert_algorithm_number ◌==◌

-- A number of two octets stands at a place, and is the kind of a certificate.
pub record CertTypeAt (message : List ℕ) (place : ℕ) (kind : CertType) (end : ℕ) : Type 0 where
  pub number : ℕ
  pub small : number < 2 ^ 16
  pub there : Stands message place (octets_16 number) end
  pub means : kind ≡ cert_type_of number

-- An octet stands at a place, and is the number of an algorithm.
pub record CertAlgorithmAt (message : List ℕ) (place : ℕ) (of_key : Algorithm)
    (end : ℕ) : Type 0 where
  pub number : ℕ
  pub small : number < 2 ^ 8
  pub there : Stands message place (number ∷ []) end
  pub means : of_key ≡ cert_algorithm_of number

-- The kind and the algorithm are those that their numbers stand for.
pub record IsNamedCert (cert : CERT) : Type 0 where
  pub kind : cert.cert_type ≡ cert_type_of (cert_type_number cert.cert_type)
  pub algorithm : cert.algorithm ≡ cert_algorithm_of (cert_algorithm_number cert.algorithm)
