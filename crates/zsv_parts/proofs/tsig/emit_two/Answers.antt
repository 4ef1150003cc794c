use Rattle.std.proofs.Common.{◌≤◌, length, arith}
use Rattle.dnw_encoder.specs.Encoders.{state}
use Rattle.zsv_parts.proofs.TsigWriting.{puts_then, on_ok}
use Rattle.zsv_parts.proofs.tsig.emit_two.Goals as goal

pub returns-clause-ok : goal.returns-clause-ok
returns-clause-ok c =
    let old = state c.args.encoder.now in
    let within : old.offset ≤ length old.octets = omega (arith, c.offset-start.ensures.value, c.offset-start.ensures.within) in
    on_ok c.emit_vec-2.result (puts_then c.args.front.now c.args.rest.now old (state c.emit_vec.new.self) (state c.emit_vec-2.new.self) within c.in_ok-emit_vec.ensures.ok) c.emit_vec-2.ensures.ok
