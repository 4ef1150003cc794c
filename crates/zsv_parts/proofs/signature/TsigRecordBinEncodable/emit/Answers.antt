use Rattle.std.proofs.Common.{◌≡◌, ℕ, ◌<◌, ◌^◌, length, rules, subst}
use Rattle.std.proofs.lemmas.Result.{IfErr-weaker}
use Rattle.dnw_encoder.specs.Effects.{WritesOctets}
use Rattle.dnw_encoder.specs.Encoders.{state}
use Rattle.dnw_encoder.proofs.Laws.{writes_then}
use Rattle.zsv_parts.specs.SignatureRecords.{tsig_numbers}
use Rattle.zsv_parts.specs.Signatures.{tsig_octets}
use Rattle.zsv_parts.proofs.SignatureWriting.{data_refused, record_emitted}
use Rattle.zsv_parts.proofs.TsigWriting.{on_ok}
use Rattle.zsv_parts.proofs.signature.TsigRecordBinEncodable.emit.Goals as goal

pub returns-clause-writes : goal.returns-clause-writes
returns-clause-writes c =
    let old = state c.args.encoder.now in
    let mid = state c.emit_owner.new.encoder in
    let later = state c.emit_vec.new.self in
    let new = state c.emit_data.new.encoder in
    writes_then old mid new c.emit_owner.ensures.writes (writes_then mid later new c.emit_vec.ensures.writes c.emit_data.ensures.writes)

pub returns-clause-ok : goal.returns-clause-ok
returns-clause-ok c =
    let old = state c.args.encoder.now in
    let mid = state c.emit_owner.new.encoder in
    let later = state c.emit_vec.new.self in
    let new = state c.emit_data.new.encoder in
    let r = c.args.self.now in
    let len = c.in-Some.len in
    let counted : len ≡ length (tsig_octets r.rdata) = c.in-Some.ensures in
    let small : len < 2 ^ 16 = search rules in
    let head : WritesOctets (tsig_numbers r len) mid later = rw c.numbers.ensures.octets at c.in_ok-emit_vec.ensures.ok in
    on_ok c.emit_data.result
    (record_emitted r len old mid later new counted small c.args.encoder.now.within c.emit_owner.new.encoder.within
    (λ sound. c.emit_vec.ensures.writes.sound (c.emit_owner.ensures.writes.sound sound))
    c.emit_owner.ensures.name c.numbers.ensures.small c.in_ok-emit_owner.ensures.ok head)
    c.emit_data.ensures.ok

pub returns-clause-err : goal.returns-clause-err
returns-clause-err c =
    let old = state c.args.encoder.now in
    let mid = state c.emit_owner.new.encoder in
    let later = state c.emit_vec.new.self in
    let r = c.args.self.now in
    let len = c.in-Some.len in
    let head : WritesOctets (tsig_numbers r len) mid later = rw c.numbers.ensures.octets at c.in_ok-emit_vec.ensures.ok in
    let small : len < 2 ^ 16 = search rules in
    let few : length (tsig_octets r.rdata) < 2 ^ 16 = subst (λ (n : ℕ). n < 2 ^ 16) c.in-Some.ensures small in
    IfErr-weaker c.emit_data.result _ _ (λ e refused. data_refused r len old mid later e few c.in_ok-emit_owner.ensures.ok head refused) c.emit_data.ensures.cause
