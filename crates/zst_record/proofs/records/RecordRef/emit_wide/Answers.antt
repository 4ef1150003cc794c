use Rattle.std.proofs.Common.{arith}
use Rattle.drd_rdata.specs.Writing.{written_octets}
use Rattle.drd_rdata.specs.declared.rdata.RData.TheVariants as rdata
use Rattle.drd_rdata.specs.dnw_encoder.Encoders.{state}
use Rattle.drd_rdata.proofs.dnw_encoder_lemmas.Laws.{writes_then}
use Rattle.drd_rdata.proofs.drd_fields_lemmas.WritingLaws.{if_err}
use Rattle.zst_record.specs.Lending.{seen}
use Rattle.zst_record.proofs.Emission.{address_refused, address_written, are_wide}
use Rattle.zst_record.proofs.records.RecordRef.emit_wide.Goals as goal

pub returns-clause-writes : goal.returns-clause-writes
returns-clause-writes c =
    writes_then (state c.args.encoder.now) (state c.emit.new.encoder) (state c.emit_vec.new.self) c.emit.ensures.writes c.emit_vec.ensures.writes

pub returns-clause-ok : goal.returns-clause-ok
returns-clause-ok c =
    let r = seen c.args.self.now in
    address_written r 16 (written_octets (rdata.AAAA c.args.aaaa.now)) c.wide_octets.result (state c.args.encoder.now) (state c.emit.new.encoder) (state c.emit_vec.new.self) c.emit_vec.result
    (are_wide r.rdata c.args.aaaa.now c.requires)
    c.in_ok-emit.ensures.ok c.emit.ensures.writes (omega arith) c.wide_octets.ensures.small c.wide_octets.ensures.octets c.emit_vec.ensures.ok c.emit_vec.ensures.fits

pub returns-clause-cause : goal.returns-clause-cause
returns-clause-cause c =
    let r = seen c.args.self.now in
    if_err c.emit_vec.result
    (λ e refused. address_refused r 16 (written_octets (rdata.AAAA c.args.aaaa.now)) c.wide_octets.result (state c.args.encoder.now) (state c.emit.new.encoder) e (are_wide r.rdata c.args.aaaa.now c.requires) c.wide_octets.ensures.octets c.in_ok-emit.ensures.ok c.emit.ensures.writes refused)
    c.emit_vec.ensures.cause
