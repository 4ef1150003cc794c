-- Owners of NSEC3 records (RFC 5155, section 3).
use Rattle.std.specs.Prelude.{ℕ, List, ◌∷◌}
use Rattle.dnw_name.specs.DomainName.{DomainName, domain_name}
use Rattle.zst_hash.specs.Base32.{base32hex}

-- The digest's digits are one label, below the zone's origin.
abbrev pub hashed_owner : List ℕ → DomainName → DomainName
hashed_owner digest origin = domain_name origin.fqdn (base32hex digest ∷ origin.labels)
