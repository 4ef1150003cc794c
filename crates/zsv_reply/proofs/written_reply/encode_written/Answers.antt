use Rattle.std.proofs.Common.{ℕ, ◌≤◌, ◌++◌, Bor, List, [], false, length, inr, refl, sym, ap, subst, arith, ◌∙◌}
use Rattle.std.proofs.lemmas.Result.{IfOk-weaker}
use Rattle.std.specs.Prelude.{Option, option_copied, option_to_list}
use Rattle.zsv_request.specs.zsv_message.zst_edns.declared.edns.Edns.{Edns}
use Rattle.zsv_request.specs.zsv_message.zsv_parts.Headers.{header_octets}
use Rattle.zsv_reply.specs.Replies.{header_of_reply}
use Rattle.zsv_request.specs.Requests.{limit_of}
use Rattle.zsv_reply.specs.Writing.{NeedsEncoder}
use Rattle.zsv_reply.proofs.WrittenReplies.{AreOptions, joined_encoded, match_weaker, some_weaker}
use Rattle.zsv_reply.proofs.written_reply.encode_written.Goals as goal

pub returns-in-None-clause-ok : goal.returns-in-None-clause-ok
returns-in-None-clause-ok c =
    let asked = c.args.queries.now in
    let records = c.args.records in
    let m = c.args.metadata in
    let h = c.written_header-header.result in
    IfOk-weaker c.joined.result _ _
    (λ found told. match_weaker found
    (λ passes. subst (λ (o : Option (Bor Edns)). NeedsEncoder (option_copied o) asked records.octets.now (limit_of c.args.protocol (option_copied c.args.edns))) (sym c.in-None.is)
    (omega (arith, passes, ap length c.as_bytes-questions.ensures, c.limit-limit.ensures.value)))
    (λ sent are. joined_encoded m h asked _ records [] (option_copied c.args.edns)
    (c.written_header-header.ensures.value
    ∙ ap (λ (o : Option (Bor Edns)). header_of_reply m false (length asked.questions) records.answers records.authorities (length (option_to_list (option_copied o)))) (sym c.in-None.is))
    c.written_header-header.ensures.back
    (subst (λ (o : Option (Bor Edns)). AreOptions (option_copied o) []) (sym c.in-None.is) refl)
    sent.0 sent.1.items (
      are.0,
      are.1 ∙ ap (λ (o : List ℕ). header_octets h ++ (o ++ (records.octets.now ++ []))) c.as_bytes-questions.ensures,
      subst (λ (n : ℕ). length sent.1.items ≤ n) c.limit-limit.ensures.value are.2,
    )) told)
    c.joined.ensures

pub returns-in-Some-octets_alone-clause-ok : goal.returns-in-Some-octets_alone-clause-ok
returns-in-Some-octets_alone-clause-ok c =
    let asked = c.args.queries.now in
    let records = c.args.records in
    let m = c.args.metadata in
    let h = c.written_header-header-in-Some-octets_alone.result in
    let options = c.in-Some-octets_alone.options in
    IfOk-weaker c.joined-in-Some-octets_alone.result _ _
    (λ found told. match_weaker found
    (λ passes. subst (λ (o : Option (Bor Edns)). NeedsEncoder (option_copied o) asked records.octets.now (limit_of c.args.protocol (option_copied c.args.edns))) (sym c.in-Some.is)
    (inr (omega (arith, passes, ap length c.as_bytes-questions.ensures, c.limit-limit.ensures.value, ap length c.in-Some-octets_alone.ensures.0))))
    (λ sent are. joined_encoded m h asked _ records options (option_copied c.args.edns)
    (c.written_header-header-in-Some-octets_alone.ensures.value
    ∙ ap (λ (o : Option (Bor Edns)). header_of_reply m false (length asked.questions) records.answers records.authorities (length (option_to_list (option_copied o)))) (sym c.in-Some.is))
    c.written_header-header-in-Some-octets_alone.ensures.back
    (subst (λ (o : Option (Bor Edns)). AreOptions (option_copied o) options) (sym c.in-Some.is) (c.in-Some-octets_alone.ensures.0, c.in-Some-octets_alone.ensures.1))
    sent.0 sent.1.items (
      are.0,
      are.1 ∙ ap (λ (o : List ℕ). header_octets h ++ (o ++ (records.octets.now ++ options))) c.as_bytes-questions.ensures,
      subst (λ (n : ℕ). length sent.1.items ≤ n) c.limit-limit.ensures.value are.2,
    )) told)
    c.joined-in-Some-octets_alone.ensures

pub returns-in-None-clause-limit : goal.returns-in-None-clause-limit
returns-in-None-clause-limit c =
    IfOk-weaker c.joined.result _ _
    (λ found told. some_weaker _ found (λ sent are. subst (λ (n : ℕ). length sent.1.items ≤ n) c.limit-limit.ensures.value are.2) told) c.joined.ensures

pub returns-in-Some-octets_alone-clause-limit : goal.returns-in-Some-octets_alone-clause-limit
returns-in-Some-octets_alone-clause-limit c =
    IfOk-weaker c.joined-in-Some-octets_alone.result _ _
    (λ found told. some_weaker _ found (λ sent are. subst (λ (n : ℕ). length sent.1.items ≤ n) c.limit-limit.ensures.value are.2) told) c.joined-in-Some-octets_alone.ensures
