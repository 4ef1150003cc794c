use Rattle.zst_denial.proofs.KeptHashes.{hash_still}
use Rattle.zst_denial.proofs.laws.unchanged_digests_secure.Goals as goal

pub returns : goal.returns
returns c = hash_still
