use Rattle.std.proofs.Common.{◌++◌, ℕ, List, map, take}
use Rattle.std.specs.Char.{to_ascii_lowercase}
use Rattle.sha1.specs.Sha1.{Holds}
use Rattle.zst_hash.proofs.digest.add_lowercase.Given as goal

abbrev pub invariant-octets : goal.invariant-octets
invariant-octets l =
    (m : List ℕ) → Holds l.initial.hasher m
    → Holds l.hasher (m ++ map to_ascii_lowercase (take l.octet-index l.octets))
