use Rattle.std.proofs.Common.{◌≡◌, drop}
use Rattle.zst_request.specs.Prerequisites.{first_refused, prescan_refused}
use Rattle.zsv_sqlite.proofs.prescan.prescan.Given as goal

abbrev pub invariant-loop-change : goal.invariant-loop-change
invariant-loop-change l = first_refused (prescan_refused l.origin) (drop l.change-index l.changes) ≡ first_refused (prescan_refused l.origin) l.changes
