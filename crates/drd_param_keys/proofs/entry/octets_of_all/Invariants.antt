use Rattle.std.proofs.Common.{◌≡◌, length, take}
use Rattle.std.specs.List.{flat_map}
use Rattle.drd_param_keys.proofs.entry.octets_of_all.Given as goal

abbrev pub invariant-entries : goal.invariant-entries
invariant-entries g l = l.total ≡ length (flat_map g.T.Entry.spelled (take l.entry-index l.entries))
