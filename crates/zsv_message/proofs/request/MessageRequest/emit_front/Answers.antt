use Rattle.std.proofs.Common.{List, ℕ, subst}
use Rattle.std.proofs.lemmas.Result.{on_ok_weaker}
use Rattle.drd_types.proofs.drd_fields_lemmas.WritingLaws.{puts_then}
use Rattle.zsv_sections.specs.zst_record.dnw_encoder.Effects.{WritesOctets}
use Rattle.zsv_sections.specs.zst_record.dnw_encoder.Encoders.{state}
use Rattle.zsv_sections.specs.zsv_parts.Headers.{header_octets}
use Rattle.zsv_sections.specs.zsv_parts.Questions.{Asked}
use Rattle.zsv_message.proofs.request.MessageRequest.emit_front.Goals as goal

pub returns-clause-ok : goal.returns-clause-ok
returns-clause-ok c =
    let old = state c.args.encoder.now in
    let mid = state c.emit.new.encoder in
    let new = state c.emit_vec.new.self in
    let asked = c.args.self.now.asked in
    on_ok_weaker c.emit_vec.result (λ puts.
    puts_then (header_octets c.args.header) asked.octets old mid new c.args.encoder.now.within c.in_ok-emit.ensures.ok
    (subst (λ (a : Asked). WritesOctets a.octets mid new) c.queries.ensures (subst (λ (octets : List ℕ). WritesOctets octets mid new) c.as_bytes.ensures puts)))
    c.emit_vec.ensures.ok
