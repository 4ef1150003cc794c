use Rattle.std.proofs.Common.{◌≡◌, ◌∙◌, ℕ, List, rules, sym, ap, subst, arith}
use Rattle.std.specs.Prelude.{Option}
use Rattle.zsv_request.specs.Requests.{limit_of}
use Rattle.zsv_request.specs.zsv_message.zst_edns.declared.edns.Edns.{Edns}
use Rattle.zsv_request.specs.zsv_message.zst_record.dnw_encoder.Encoders.{state}
use Rattle.zsv_request.specs.zsv_message.zst_record.dnw_encoder.State.{State, writes_pointers}
use Rattle.zsv_reply.specs.Writing.{IsEncoded}
use Rattle.zsv_reply.proofs.Asking.{encoded}
use Rattle.zsv_reply.proofs.message_response.MessageResponse.encode.Goals as goal

pub returns-in-Ok-clause-ok : goal.returns-in-Ok-clause-ok
unfolding writes_pointers
returns-in-Ok-clause-ok g c = λ parts holds alone.
    let s = state c.set_max_size.new.self in
    let begun = c.set_max_size.ensures.state ∙ ap (λ (t : State). record t { maximum = c.limit-limit.result }) c.new-encoder.ensures.state in
    let maximum = ap (λ (t : State). t.maximum) begun ∙ c.limit-limit.ensures.value ∙ ap (λ (e : Option Edns). limit_of c.args.protocol e) (sym holds.edns) in
    let written : (octets : List ℕ) → octets ≡ (state c.destructive_emit-written.new.encoder).octets → IsEncoded c.in-Ok.info octets parts c.args.self.queries.now (limit_of c.args.protocol parts.edns) =
    λ octets is.
    subst (λ (o : List ℕ). IsEncoded c.in-Ok.info o parts c.args.self.queries.now (limit_of c.args.protocol parts.edns)) (sym is)
    (encoded s c.in-Ok.info _ parts c.args.self.queries.now (limit_of c.args.protocol parts.edns) (ap (λ (t : State). t.points) begun) (ap (λ (t : State). t.candidates) begun) maximum (omega (arith, c.in-Ok.ensures.room, maximum)) (c.in-Ok.ensures.ok parts holds alone)) in
    written _ (search rules)
