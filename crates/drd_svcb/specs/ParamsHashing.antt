-- What of parameters is fed to a hasher: the same where they are equal.
use Rattle.std.specs.Prelude.{List, ◌++◌}
use Rattle.std.specs.Hash as fed
use Rattle.std.specs.Hash.{HashWrites}
use Rattle.drd_params.specs.Hashing.{list_input, value_input}
use Rattle.drd_param_keys.specs.Keys.{key_number}
use Rattle.drd_params.specs.Params.{Param}

-- A key's number and its value.
abbrev pub param_input : Param → HashWrites
param_input param = fed.u16 (key_number param.0) ++ value_input param.1

abbrev pub params_input : List Param → HashWrites
params_input params = list_input param_input params
