use Rattle.std.proofs.Common.{◌∷◌, []}
use Rattle.dnw_encoder.specs.Encoders.{state}
use Rattle.drd_fields.proofs.WritingLaws.{puts_longs, on_ok}
use Rattle.drd_fields.proofs.emit.Tuple5U32U32U32U32U32DataFields.emit_fields.Goals as goal

pub returns-clause-ok : goal.returns-clause-ok
returns-clause-ok c =
    let n = c.args.self.now in
    on_ok c.emit_vec.result (λ puts. puts_longs (n.0 ∷ n.1 ∷ n.2 ∷ n.3 ∷ n.4 ∷ []) (state c.args.encoder.now) (state c.emit_vec.new.self) (rw c.octets_of_five.ensures at puts)) c.emit_vec.ensures.ok
