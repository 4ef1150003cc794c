use Rattle.std.proofs.Common.{◌≡◌, ◌++◌}
use Rattle.std.specs.BTreeMap.{values}
use Rattle.std.specs.Map.{values_of}
use Rattle.zst_circle.proofs.hashed.in_order.Given as goal

abbrev pub invariant-entries : goal.invariant-entries
invariant-entries g l = l.list.items ++ values_of l.value-iterator ≡ values l.fn.map
