-- Labels of an address, from its last octet on.
use Rattle.std.proofs.Common.{◌≡◌, ℕ, ◌+◌, ◌*◌, ◌≤◌, ◌++◌, true, List, length, reverse}
use Rattle.std.specs.List.{flat_map}
use Rattle.dnw_name.specs.DomainName.{DomainName, labels_len}

-- The labels that were put down and those of the octets that are left make the whole.
pub record ArpaSoFar (f : ℕ → List (List ℕ)) (octets : List ℕ) (name : DomainName) (left : List ℕ) : Type 0 where
  pub flag : name.fqdn ≡ true
  pub whole : name.labels ++ flat_map f (reverse left) ≡ flat_map f (reverse octets)
  pub few : labels_len name.labels + 4 * length left ≤ 64
