-- Digests of names (RFC 5155, section 5).
use Rattle.std.specs.Prelude.{ℕ, zero, suc, List, ◌++◌}
use Rattle.dnw_name.specs.DomainName.{DomainName, lowercase_name, name_octets}
use Rattle.sha1.specs.Sha1.{sha1}

-- IH(salt, x, 0) = H(x || salt), and IH(salt, x, k) = H(IH(salt, x, k - 1) || salt), where H is
-- SHA-1.
abbrev pub iterated_hash : List ℕ → List ℕ → ℕ → List ℕ
iterated_hash salt x zero = sha1 (x ++ salt)
iterated_hash salt x (suc k) = sha1 (iterated_hash salt x k ++ salt)

-- The digest of a name: x is the name uncompressed and in lower case.
abbrev pub nsec3_digest : List ℕ → ℕ → DomainName → List ℕ
nsec3_digest salt iterations name =
    iterated_hash salt (name_octets (lowercase_name name)) iterations
