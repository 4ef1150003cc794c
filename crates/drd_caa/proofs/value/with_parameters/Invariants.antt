use Rattle.std.proofs.Common.{◌≡◌, ◌++◌, take}
use Rattle.std.specs.List.{flat_map}
use Rattle.drd_caa.specs.Issue.{parameter_print}
use Rattle.drd_caa.proofs.value.with_parameters.Given as goal

abbrev pub invariant-parameters : goal.invariant-parameters
invariant-parameters l = l.octets.items ≡ l.fn.start.items ++ flat_map parameter_print (take l.parameter-index l.parameters)
