use Rattle.std.proofs.Common.{◌≡◌, drop, map}
use Rattle.zst_request.specs.Prerequisites.{are_members}
use Rattle.zsv_sqlite.proofs.groups.are_stored.Given as goal

abbrev pub invariant-loop-asked : goal.invariant-loop-asked
invariant-loop-asked l = are_members (map (λ r. r.now) (drop l.asked-index l.wanted)) l.stored ≡ are_members (map (λ r. r.now) l.wanted) l.stored
