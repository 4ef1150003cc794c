use Rattle.std.proofs.Common.{◌≡◌}
use Rattle.std.specs.List.{list_all}
use Rattle.zsv_sqlite.specs.Groups.{is_group_met}
use Rattle.zsv_sqlite.proofs.groups.are_all_met.Given as goal

abbrev pub invariant-loop-key : goal.invariant-loop-key
invariant-loop-key l = list_all (is_group_met l.zone.sets) l.key-iterator ≡ list_all (is_group_met l.zone.sets) l.groups.entries
