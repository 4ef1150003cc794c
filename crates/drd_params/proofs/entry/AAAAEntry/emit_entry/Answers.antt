use Rattle.std.proofs.Common.{ℕ, List, subst}
use Rattle.drd_fields.specs.dnw_encoder.Encoders.{state}
use Rattle.drd_fields.specs.dnw_encoder.Effects.{WritesOctets}
use Rattle.drd_params.proofs.entry.AAAAEntry.emit_entry.Goals as goal

pub returns-in-Ok-clause-ok : goal.returns-in-Ok-clause-ok
returns-in-Ok-clause-ok c = subst (λ (o : List ℕ). WritesOctets o (state c.args.encoder.now) (state c.emit_vec.new.self)) c.octets_of.ensures c.in-Ok.ensures.ok
