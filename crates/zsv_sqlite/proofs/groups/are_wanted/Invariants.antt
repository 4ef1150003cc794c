use Rattle.std.proofs.Common.{◌≡◌, drop, map}
use Rattle.zst_request.specs.Prerequisites.{are_members}
use Rattle.zsv_sqlite.proofs.groups.are_wanted.Given as goal

abbrev pub invariant-loop-member : goal.invariant-loop-member
invariant-loop-member l = are_members (drop l.member-index l.stored) (map (λ r. r.now) l.wanted) ≡ are_members l.stored (map (λ r. r.now) l.wanted)
