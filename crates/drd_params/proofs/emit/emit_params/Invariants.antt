use Rattle.std.proofs.Common.{◌≡◌}
use Rattle.drd_params.specs.dnw_encoder.Encoders.{state}
use Rattle.drd_params.specs.Params.{param_octets}
use Rattle.drd_param_keys.proofs.Emitting.{Put}
use Rattle.drd_params.proofs.emit.emit_params.Given as goal

abbrev pub invariant-params : goal.invariant-params
invariant-params l = record {
  same : l.encoder.buffer.ghost_name ≡ l.initial.encoder.buffer.ghost_name;
  put : Put param_octets l.params l.param-index (state l.initial.encoder) (state l.encoder);
}
