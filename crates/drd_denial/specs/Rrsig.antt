-- RDATA of RRSIG records (RFC 4034, section 3.1).
use Rattle.std.specs.Prelude.{◌≡◌, ℕ, ◌≤◌, true, List, ◌∷◌, ◌++◌, length}
use Rattle.drd_plain.specs.dnw_decoder.Octets.{octets_16, octets_32}
use Rattle.drd_plain.specs.dnw_name.DomainName.{DomainName, name_octets}

-- What a signer gives for a set: the key's algorithm and tag, the signer's name, the moments
-- between which the signature is valid, in seconds since 1970, and the signature.
pub record Signing : Type 0 where
  pub algorithm : ℕ
  pub key_tag : ℕ
  pub signer : DomainName
  pub inception : ℕ
  pub expiration : ℕ
  pub octets : List ℕ

abbrev pub signing : ℕ → ℕ → DomainName → ℕ → ℕ → List ℕ → Signing
signing algorithm key_tag signer inception expiration octets = record {
  algorithm = algorithm;
  key_tag = key_tag;
  signer = signer;
  inception = inception;
  expiration = expiration;
  octets = octets;
}

-- The signer's name is fully qualified, and the signature has at most 4,096 octets.
pub record IsSigning (s : Signing) : Type 0 where
  pub full : s.signer.fqdn ≡ true
  pub short : length s.octets ≤ 4096

-- Algorithm, labels, original TTL, expiration, inception and key tag.
abbrev pub front_octets : ℕ → ℕ → Signing → List ℕ
front_octets labels ttl s =
    s.algorithm ∷ labels
    ∷ (octets_32 ttl ++ octets_32 s.expiration ++ octets_32 s.inception ++ octets_16 s.key_tag)

-- The number of the type covered, these 16 octets, the signer's name, uncompressed, and the
-- signature.
abbrev pub rrsig_octets : ℕ → ℕ → ℕ → Signing → List ℕ
rrsig_octets covered labels ttl s =
    octets_16 covered ++ front_octets labels ttl s ++ name_octets s.signer ++ s.octets
