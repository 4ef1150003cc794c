use Rattle.std.proofs.Common.{◌≡◌}
use Rattle.zst_hash.specs.Digests.{nsec3_digest}
use Rattle.zst_hash.proofs.digest.nsec3_digest.Given as goal

abbrev pub invariant-iterations : goal.invariant-iterations
invariant-iterations l = l.digest ≡ nsec3_digest l.salt l.counter l.name
