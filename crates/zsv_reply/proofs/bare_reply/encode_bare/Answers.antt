use Rattle.std.proofs.Common.{◌≡◌, None, ℕ, ◌+◌, ◌≤◌, ◌∙◌, length, length-append, false, List, ◌++◌, ap, sym, subst, arith}
use Rattle.std.proofs.lemmas.Result.{IfOk-weaker}
use Rattle.zsv_request.specs.Requests.{limit_of}
use Rattle.zsv_request.specs.zsv_message.zsv_parts.Headers.{header_octets}
use Rattle.zsv_request.specs.zsv_message.zsv_parts.declared.header.Header.{Header}
use Rattle.zsv_reply.specs.Replies.{header_of_reply}
use Rattle.zsv_reply.specs.Writing.{IsEncoded, bare_parts}
use Rattle.zsv_reply.proofs.BareReplies.{bare_encoded, bare_failed}
use Rattle.zsv_reply.proofs.bare_reply.encode_bare.Goals as goal

pub returns-then-from-size-clause-ok : goal.returns-then-from-size-clause-ok
returns-then-from-size-clause-ok c = λ asked counted are.
    let limit = limit_of c.args.protocol None in
    IfOk-weaker c.encode_failure.result _ _ (λ sent told.
    bare_failed c.args.metadata sent.0 asked limit sent.1.items told (omega (arith, c.limit.ensures.value, c.limit.ensures.lower)) (omega (arith, ap length are, c.limit.ensures.value, c.if-from-size.true))) c.encode_failure.ensures

pub returns-clause-ok : goal.returns-clause-ok
returns-clause-ok c = λ asked counted are.
    let h = c.header_over-header.result in
    let limit = limit_of c.args.protocol None in
    let is : h ≡ header_of_reply c.args.metadata false (length asked.questions) 0 0 0 = c.header_over-header.ensures.value ∙ ap (λ (n : ℕ). header_of_reply c.args.metadata false n 0 0 0) (sym counted) in
    let same : c.extend_from_slice-2.new.self.items ≡ header_octets h ++ asked.octets =
    c.in_ok-extend_from_slice-2.ensures.items
    ∙ ap (λ (o : List ℕ). o ++ c.args.octets.now) (c.in_ok-extend_from_slice.ensures.items ∙ ap (λ (o : List ℕ). o ++ c.octets.result) c.in_ok-reply.ensures.items ∙ c.octets.ensures.octets)
    ∙ ap (λ (o : List ℕ). header_octets h ++ o) (sym are) in
    let room : 12 + length asked.octets ≤ limit = omega (arith, ap length are, c.limit.ensures.value) in
    subst (λ (info : Header). IsEncoded info c.extend_from_slice-2.new.self.items (bare_parts c.args.metadata) asked limit) (sym c.from-2.ensures)
    (bare_encoded c.args.metadata h asked limit c.extend_from_slice-2.new.self.items is c.header_over-header.ensures.back same room)

pub returns-then-from-size-clause-limit : goal.returns-then-from-size-clause-limit
returns-then-from-size-clause-limit c =
    IfOk-weaker c.encode_failure.result _ _ (λ sent told. omega (arith, told.long, c.limit.ensures.value, c.limit.ensures.lower)) c.encode_failure.ensures

pub returns-clause-limit : goal.returns-clause-limit
returns-clause-limit c =
    let h = c.header_over-header.result in
    let same : c.extend_from_slice-2.new.self.items ≡ header_octets h ++ c.args.octets.now =
    c.in_ok-extend_from_slice-2.ensures.items
    ∙ ap (λ (o : List ℕ). o ++ c.args.octets.now) (c.in_ok-extend_from_slice.ensures.items ∙ ap (λ (o : List ℕ). o ++ c.octets.result) c.in_ok-reply.ensures.items ∙ c.octets.ensures.octets) in
    omega (arith, ap length same, length-append (header_octets h) c.args.octets.now, c.limit.ensures.value)
