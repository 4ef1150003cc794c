use Rattle.std.proofs.Common.{inl, refl, subst}
use Rattle.dnw_encoder.specs.Effects.{Trims}
use Rattle.dnw_encoder.specs.Encoders.{state}
use Rattle.dnw_encoder.proofs.RollbackLaws.{rolled_back}
use Rattle.dnw_encoder.specs.State.{State}
use Rattle.dnw_encoder.proofs.encoder.BinEncoder.emit_item.Goals as goal

pub returns-in-Err-MaxBufferSizeExceeded-clause-writes : goal.returns-in-Err-MaxBufferSizeExceeded-clause-writes
returns-in-Err-MaxBufferSizeExceeded-clause-writes g c =
    let new = state c.trim.new.self in
    let back = rolled_back (state c.args.self.now) (state c.emit.new.encoder) new c.emit.ensures.writes (subst (λ (s : State). Trims s new) c.set_offset.ensures.state c.trim.ensures.trims) in
    back.writes

pub returns-in-Err-MaxBufferSizeExceeded-clause-stopped : goal.returns-in-Err-MaxBufferSizeExceeded-clause-stopped
returns-in-Err-MaxBufferSizeExceeded-clause-stopped g c =
    let mid = state c.emit.new.encoder in
    let new = state c.trim.new.self in
    let back = rolled_back (state c.args.self.now) mid new c.emit.ensures.writes (subst (λ (s : State). Trims s new) c.set_offset.ensures.state c.trim.ensures.trims) in
    inl (mid, c.in-Err-MaxBufferSizeExceeded.field-0-0, rw c.in-Err-MaxBufferSizeExceeded.field-0-is at c.in-Err-MaxBufferSizeExceeded.ensures.err, refl, back)
