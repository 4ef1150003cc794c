-- The numbers of SSHFP data (RFC 4255 3.1, RFC 6594, RFC 7479, RFC 8709).
use Rattle.std.specs.Prelude.{ℕ, ◌≡◌, ◌==◌, Bool, List, [], ◌∷◌, unwrap_or, find}
use Rattle.std.specs.Ordering.{on}
use Rattle.drd_keys.specs.declared.sshfp.Algorithm.{Algorithm}
use Rattle.drd_keys.specs.declared.sshfp.Algorithm.TheVariants as algorithm
use Rattle.drd_keys.specs.declared.sshfp.FingerprintType.{FingerprintType}
use Rattle.drd_keys.specs.declared.sshfp.FingerprintType.TheVariants as fingerprint_type
use Rattle.drd_keys.specs.declared.sshfp.SSHFP.{SSHFP}

-- The number of a key's algorithm.
abbrev pub sshfp_algorithm_number : Algorithm → ℕ
sshfp_algorithm_number algorithm.Reserved = 0
sshfp_algorithm_number algorithm.RSA = 1
sshfp_algorithm_number algorithm.DSA = 2
sshfp_algorithm_number algorithm.ECDSA = 3
sshfp_algorithm_number algorithm.Ed25519 = 4
sshfp_algorithm_number algorithm.Ed448 = 6
sshfp_algorithm_number (algorithm.Unassigned number) = number

-- The algorithms that have a name, by rising number.
abbrev pub named_sshfp_algorithms : List Algorithm
named_sshfp_algorithms =
    algorithm.Reserved ∷ algorithm.RSA ∷ algorithm.DSA ∷ algorithm.ECDSA ∷ algorithm.Ed25519
    ∷ algorithm.Ed448 ∷ []

-- The algorithm that a number stands for.
abbrev pub sshfp_algorithm_of : ℕ → Algorithm
sshfp_algorithm_of number =
    unwrap_or (find (λ named. sshfp_algorithm_number named == number) named_sshfp_algorithms)
    (algorithm.Unassigned number)

-- Two algorithms are the same where their numbers are.
abbrev pub same_sshfp_algorithm : Algorithm → Algorithm → Bool
same_sshfp_algorithm = on sshfp_algorithm_number ◌==◌

-- The number of a fingerprint's hash.
abbrev pub fingerprint_type_number : FingerprintType → ℕ
fingerprint_type_number fingerprint_type.Reserved = 0
fingerprint_type_number fingerprint_type.SHA1 = 1
fingerprint_type_number fingerprint_type.SHA256 = 2
fingerprint_type_number (fingerprint_type.Unassigned number) = number

-- The hashes that have a name, by rising number.
abbrev pub named_fingerprint_types : List FingerprintType
named_fingerprint_types =
    fingerprint_type.Reserved ∷ fingerprint_type.SHA1 ∷ fingerprint_type.SHA256 ∷ []

-- The hash that a number stands for.
abbrev pub fingerprint_type_of : ℕ → FingerprintType
fingerprint_type_of number =
    unwrap_or (find (λ named. fingerprint_type_number named == number) named_fingerprint_types)
    (fingerprint_type.Unassigned number)

-- Two hashes are the same where their numbers are.
abbrev pub same_fingerprint_type : FingerprintType → FingerprintType → Bool
same_fingerprint_type = on fingerprint_type_number ◌==◌

-- The algorithm and the hash are those that their numbers stand for.
pub record IsNamedSshfp (sshfp : SSHFP) : Type 0 where
  pub algorithm : sshfp.algorithm ≡ sshfp_algorithm_of (sshfp_algorithm_number sshfp.algorithm)
  pub hash : sshfp.fingerprint_type
      ≡ fingerprint_type_of (fingerprint_type_number sshfp.fingerprint_type)
