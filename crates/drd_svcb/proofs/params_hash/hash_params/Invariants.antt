use Rattle.std.proofs.Common.{◌≡◌, take}
use Rattle.std.specs.List.{fold, flat_map}
use Rattle.drd_svcb.specs.ParamsHashing.{param_input}
use Rattle.drd_svcb.proofs.params_hash.hash_params.Given as goal

abbrev pub invariant-params : goal.invariant-params
invariant-params g l = l.state ≡ fold g.H.Hasher.write l.initial.state (flat_map param_input (take l.param-index l.params))
