use Rattle.std.proofs.Common.{◌^◌, ◌<◌, ◌≤◌, length, arith}
use Rattle.dnw_encoder.specs.Encoders.{state}
use Rattle.dnw_encoder.proofs.Laws.{writes_then}
use Rattle.zsv_parts.proofs.TsigWriting.{tsig_emitted, on_ok_both}
use Rattle.zsv_parts.proofs.tsig.Tsig.emit_data.Goals as goal

pub returns-clause-writes : goal.returns-clause-writes
returns-clause-writes c =
    writes_then (state c.args.encoder.now) (state c.emit_algorithm.new.encoder) (state c.emit_signed.new.encoder) c.emit_algorithm.ensures.writes c.emit_signed.ensures.writes

pub returns-clause-ok : goal.returns-clause-ok
returns-clause-ok c =
    let old = state c.args.encoder.now in
    let mid = state c.emit_algorithm.new.encoder in
    let new = state c.emit_signed.new.encoder in
    let tsig = c.args.self.now in
    let within : old.offset ≤ length old.octets = omega (arith, c.offset-start.ensures.value, c.offset-start.ensures.within) in
    let mac : length tsig.mac.items < 2 ^ 16 = omega (arith, c.requires.mac, c.ranges.mac_size.fits) in
    let other : length tsig.other.items < 2 ^ 16 = omega (arith, c.requires.other, c.ranges.other_len.fits) in
    on_ok_both c.emit_signed.result
    (λ rest (fits, fudge, oid, error). tsig_emitted tsig old mid new within c.emit_algorithm.ensures.name fudge mac (oid, error, other) (omega (arith, fits, c.emit_algorithm.ensures.writes.modes.maximum)) c.in_ok-emit_algorithm.ensures.ok rest)
    c.emit_signed.ensures.ok (on_ok_both c.emit_signed.result (λ fits small. (fits, small.0, small.1, small.2)) c.emit_signed.ensures.fits c.emit_signed.ensures.small)
