use Rattle.drd_csync.proofs.Writing.{emitted, types_refused}
use Rattle.dnw_wire.specs.dnw_encoder.Encoders.{state}
use Rattle.drd_csync.proofs.csync.CSYNCBinEncodable.emit.Goals as goal

pub returns-in-Ok-emit-clause-ok : goal.returns-in-Ok-emit-clause-ok
returns-in-Ok-emit-clause-ok c =
    emitted c.args.self.now (state c.args.encoder.now) (state c.emit_front.new.encoder) (state c.emit.new.encoder) c.emit_front.ensures.within c.in-Ok.ensures.ok c.in-Ok-emit.ensures.ok

pub returns-in-Err-emit-clause-err : goal.returns-in-Err-emit-clause-err
returns-in-Err-emit-clause-err c =
    types_refused c.args.self.now (state c.args.encoder.now) (state c.emit_front.new.encoder) (state c.emit.new.encoder) c.in-Err-emit.refused c.in-Ok.ensures.ok c.in-Err-emit.ensures.err
