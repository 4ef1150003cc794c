use Rattle.std.proofs.Common.{◌≡◌}
use Rattle.dnw_encoder.specs.Encoders.{state}
use Rattle.drd_param_keys.proofs.Emitting.{Put}
use Rattle.drd_param_keys.proofs.emit.emit_entries.Given as goal

abbrev pub invariant-entries : goal.invariant-entries
invariant-entries g l = record {
  same : l.encoder.buffer.ghost_name ≡ l.initial.encoder.buffer.ghost_name;
  put : Put g.T.Entry.spelled l.entries l.entry-index (state l.initial.encoder) (state l.encoder);
}
