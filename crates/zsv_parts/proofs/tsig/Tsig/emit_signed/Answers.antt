use Rattle.std.proofs.Common.{◌≤◌, length, arith}
use Rattle.dnw_encoder.specs.Encoders.{state}
use Rattle.dnw_encoder.proofs.Laws.{writes_then}
use Rattle.zsv_parts.proofs.TsigWriting.{signed_written, on_ok}
use Rattle.zsv_parts.proofs.tsig.Tsig.emit_signed.Goals as goal

pub returns-clause-writes : goal.returns-clause-writes
returns-clause-writes c =
    writes_then (state c.args.encoder.now) (state c.emit_two.new.encoder) (state c.emit_two-2.new.encoder) c.emit_two.ensures.writes c.emit_two-2.ensures.writes

pub returns-clause-ok : goal.returns-clause-ok
returns-clause-ok c =
    let old = state c.args.encoder.now in
    let within : old.offset ≤ length old.octets = omega (arith, c.offset-start.ensures.value, c.offset-start.ensures.within) in
    let front = rw c.requires.mac at c.time_numbers.ensures.octets in
    let codes = rw c.requires.other at c.code_numbers.ensures.octets in
    on_ok c.emit_two-2.result
    (signed_written c.args.self.now c.time_numbers.result c.code_numbers.result old (state c.emit_two.new.encoder) (state c.emit_two-2.new.encoder) within front codes (rw c.deref.ensures.value at c.in_ok-emit_two.ensures.ok))
    (rw c.deref-2.ensures.value at c.emit_two-2.ensures.ok)
