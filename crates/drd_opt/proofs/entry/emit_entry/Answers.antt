use Rattle.std.proofs.Common.{◌≤◌, ℕ, length, subst, arith}
use Rattle.drd_fields.specs.dnw_decoder.Octets.{octets_16}
use Rattle.drd_fields.specs.dnw_encoder.Encoders.{state}
use Rattle.drd_fields.specs.dnw_encoder.Effects.{WritesOctets}
use Rattle.drd_fields.proofs.dnw_encoder_lemmas.Laws.{writes_then}
use Rattle.drd_fields.proofs.WritingLaws.{on_ok, within_then}
use Rattle.drd_opt.specs.Codes.{edns_code_number}
use Rattle.drd_opt.specs.Options.{option_octets}
use Rattle.drd_opt.proofs.WriteLemmas.{entry_puts}
use Rattle.drd_opt.proofs.entry.emit_entry.Goals as goal

pub returns-clause-writes : goal.returns-clause-writes
returns-clause-writes c =
    let a = state c.args.encoder.now in
    let b = state c.emit_u16.new.self in
    let d = state c.emit_u16-2.new.self in
    writes_then a d (state c.emit.new.encoder) (writes_then a b d c.emit_u16.ensures.writes c.emit_u16-2.ensures.writes) c.emit.ensures.writes

pub returns-clause-ok : goal.returns-clause-ok
returns-clause-ok c =
    let a = state c.args.encoder.now in
    let b = state c.emit_u16.new.self in
    let d = state c.emit_u16-2.new.self in
    let octets = option_octets c.args.entry.now.1 in
    let within : a.offset ≤ length a.octets = omega (arith, c.offset-start.ensures.value, c.offset-start.ensures.within) in
    let first : WritesOctets (octets_16 (edns_code_number c.args.entry.now.0)) a b = subst (λ (n : ℕ). WritesOctets (octets_16 n) a b) c.from.ensures c.in-Ok.ensures.ok in
    let second : WritesOctets (octets_16 (length octets)) b d = subst (λ (n : ℕ). WritesOctets (octets_16 n) b d) c.len-len.ensures c.in-Ok-emit_u16.ensures.ok in
    on_ok c.emit.result (λ emitted. entry_puts (edns_code_number c.args.entry.now.0) octets a b d (state c.emit.new.encoder) within first second emitted) c.emit.ensures.ok

pub returns-clause-fits : goal.returns-clause-fits
returns-clause-fits c =
    let b = state c.emit_u16.new.self in
    let d = state c.emit_u16-2.new.self in
    let new = state c.emit.new.encoder in
    let first = c.in-Ok.ensures.ok in
    let second = c.in-Ok-emit_u16.ensures.ok in
    let forward = c.emit.ensures.writes.forward in
    on_ok c.emit.result
    (λ emitted.
    let all = within_then b d new second.modes.maximum forward (λ some. omega (arith, second.offset, c.in-Ok-emit_u16.ensures.fits)) emitted.within (omega (arith, second.offset, forward)) in
    omega (arith, all, first.modes.maximum))
    c.emit.ensures.ok
