use Rattle.std.proofs.Common.{ℕ, ◌+◌, ap, ◌∙◌, rules}
use Rattle.drd_rdata.specs.dnw_decoder.Octets.{octets_16}
use Rattle.drd_rdata.specs.dnw_encoder.Encoders.{state}
use Rattle.drd_rdata.proofs.dnw_encoder_lemmas.Laws.{writes_then}
use Rattle.zst_record.proofs.Emission.{still_open, filled_writes, behind_emitted, data_refused}
use Rattle.zst_record.proofs.emit.emit_behind_length.Goals as goal

pub returns-in-Err-clause-writes : goal.returns-in-Err-clause-writes
returns-in-Err-clause-writes c =
    writes_then (state c.args.encoder.now) (state c.place.new.self) (state c.emit.new.encoder) c.place.ensures.writes c.emit.ensures.writes

pub returns-in-Err-clause-cause : goal.returns-in-Err-clause-cause
returns-in-Err-clause-cause c =
    data_refused c.args.rdata.now c.in_ok-length.length.start (state c.args.encoder.now) (state c.place.new.self) (state c.emit.new.encoder) c.in-Err.cause c.shown_error.result c.in_ok-length.ensures.ok c.emit.ensures.writes c.in-Err.ensures.err c.shown_error.ensures

pub fill_u16-requires-clause-is_open : goal.fill_u16-requires-clause-is_open
fill_u16-requires-clause-is_open c =
    still_open c.in_ok-length.length.start 2 (state c.args.encoder.now) (state c.place.new.self) (state c.emit.new.encoder) c.in_ok-length.ensures.ok c.emit.ensures.writes

pub returns-in-Ok-clause-writes : goal.returns-in-Ok-clause-writes
returns-in-Ok-clause-writes c =
    let old = state c.args.encoder.now in
    let mid = state c.emit.new.encoder in
    filled_writes c.in_ok-length.length.start (octets_16 c.in-Ok.octets) old mid (state c.fill_u16.new.self) c.in_ok-length.ensures.ok.at (writes_then old (state c.place.new.self) mid c.place.ensures.writes c.emit.ensures.writes) c.fill_u16.ensures.fills

pub returns-in-Ok-clause-ok : goal.returns-in-Ok-clause-ok
returns-in-Ok-clause-ok c =
    behind_emitted c.args.rdata.now c.in_ok-length.length.start c.in-Ok.octets (state c.args.encoder.now) (state c.place.new.self) (state c.emit.new.encoder) (state c.fill_u16.new.self) c.in_ok-length.ensures.ok c.place.ensures.writes c.in_ok-length.ensures.fits c.in_default.ensures.ok c.emit.ensures.writes c.fill_u16.ensures.fills (ap (λ (n : ℕ). c.in_ok-length.length.start + 2 + n) c.in-Ok.ensures.1 ∙ c.len_since_place.ensures) (search rules)

pub returns-in-Err-try_from-clause-writes : goal.returns-in-Err-try_from-clause-writes
returns-in-Err-try_from-clause-writes c =
    writes_then (state c.args.encoder.now) (state c.place.new.self) (state c.emit.new.encoder) c.place.ensures.writes c.emit.ensures.writes
