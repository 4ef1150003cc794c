use Rattle.drd_rdata.specs.dnw_encoder.Encoders.{state}
use Rattle.drd_rdata.proofs.dnw_encoder_lemmas.Laws.{writes_then}
use Rattle.drd_rdata.proofs.drd_fields_lemmas.WritingLaws.{if_err, on_ok}
use Rattle.zst_record.specs.Lending.{seen}
use Rattle.zst_record.proofs.Emission.{record_emitted, rest_refused}
use Rattle.zst_record.proofs.emit.RecordRefBinEncodable.emit.Goals as goal

pub returns-clause-writes : goal.returns-clause-writes
returns-clause-writes c =
    writes_then (state c.args.encoder.now) (state c.emit_head.new.encoder) (state c.emit_behind_length.new.encoder) c.emit_head.ensures.writes c.emit_behind_length.ensures.writes

pub returns-clause-ok : goal.returns-clause-ok
returns-clause-ok c =
    on_ok c.emit_behind_length.result
    (λ behind. record_emitted (seen c.args.self.now) (state c.args.encoder.now) (state c.emit_head.new.encoder) (state c.emit_behind_length.new.encoder) c.in_ok-emit_head.ensures.ok c.emit_head.ensures.writes behind c.emit_behind_length.ensures.writes)
    c.emit_behind_length.ensures.ok

pub returns-clause-err : goal.returns-clause-err
returns-clause-err c =
    if_err c.emit_behind_length.result
    (λ e refused. rest_refused (seen c.args.self.now) (state c.args.encoder.now) (state c.emit_head.new.encoder) e c.in_ok-emit_head.ensures.ok c.emit_head.ensures.writes refused)
    c.emit_behind_length.ensures.cause
