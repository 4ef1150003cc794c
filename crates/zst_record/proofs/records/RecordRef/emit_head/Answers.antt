use Rattle.drd_rdata.specs.dnw_encoder.Encoders.{state}
use Rattle.drd_rdata.proofs.dnw_encoder_lemmas.Laws.{writes_then}
use Rattle.drd_rdata.proofs.drd_fields_lemmas.WritingLaws.{on_ok}
use Rattle.zst_record.specs.Lending.{seen}
use Rattle.zst_record.proofs.Emission.{head_emitted}
use Rattle.zst_record.proofs.records.RecordRef.emit_head.Goals as goal

pub returns-clause-writes : goal.returns-clause-writes
returns-clause-writes c =
    writes_then (state c.args.encoder.now) (state c.emit.new.encoder) (state c.emit_vec.new.self) c.emit.ensures.writes c.emit_vec.ensures.writes

pub returns-clause-ok : goal.returns-clause-ok
returns-clause-ok c =
    on_ok c.emit_vec.result
    (λ wrote. head_emitted (seen c.args.self.now) (state c.args.encoder.now) (state c.emit.new.encoder) (state c.emit_vec.new.self) c.in_ok-emit.ensures.ok c.emit.ensures.writes (rw c.head_numbers.ensures.octets at wrote) c.emit_vec.ensures.writes c.head_numbers.ensures.small)
    c.emit_vec.ensures.ok
