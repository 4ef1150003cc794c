use Rattle.std.proofs.Common.{◌≡◌, ◌++◌, length}
use Rattle.zst_hash.specs.Base32.{base32hex}
use Rattle.zst_hash.proofs.base32.base32hex.Given as goal

abbrev pub invariant-groups : goal.invariant-groups
invariant-groups l = l.text.items ++ base32hex l.rest ≡ base32hex l.octets

abbrev pub decreases-groups : goal.decreases-groups
decreases-groups l = length l.rest
