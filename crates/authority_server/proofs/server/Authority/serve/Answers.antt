use Rattle.std.proofs.Common.{◌∙◌, ap, refl, sym}
use Rattle.std.proofs.lemmas.Result.{IfOk-weaker}
use Rattle.zsv_access.specs.Access.{is_allowed}
use Rattle.zsv_catalog.specs.zsv_answer.zsv_reply.zsv_message.Messages.{bare_message}
use Rattle.authority_server.specs.Runs.{octets_of}
use Rattle.authority_server.specs.Servers.{RefusesReply, SendsReply, error_of, world_of}
use Rattle.authority_server.specs.Serving.{Received, Refuses, Serves}
use Rattle.authority_server.proofs.Answered.{answer_of, refusal_of, refusal_sent, sent_answers, sent_refuses, unserved_err, unserved_ok}
use Rattle.authority_server.proofs.ServedBack.{either, refuses_back, refuses_fixed, serves_back, serves_fixed}
use Rattle.authority_server.proofs.server.Authority.serve.Goals as goal

pub returns-in-Some : goal.returns-in-Some
returns-in-Some g c =
    let server = world_of g.S.TsigSuite.keys g.H.ZoneHandler.view c.args.self.now in
    let received : Received = record { message = c.args.message.now; source = c.args.src; transport = c.args.protocol; now = c.args.now } in
    let there = c.in-Some.ensures.there in
    let request = bare_message c.in-Some.request.metadata there.0 in
    let denied = ap (is_allowed c.args.self.now.access) (sym c.ip.ensures) ∙ sym c.allow-may_ask.ensures ∙ c.if-not-may_ask.true in
    record {
      served = answer_of error_of c.unserved.result c.answer_sent.result c.answer_sent.ensures.ok c.answer_sent.ensures.err (λ answer. Serves server received (octets_of answer) server) _
          (unserved_ok c.encode_refusal.result c.unserved.result _ c.unserved.ensures.ok c.unserved.ensures.err (λ sent. SendsReply server received request sent.0 sent.1.items server)
          (IfOk-weaker c.encode_refusal.result _ _ (λ sent told. refusal_sent server received request sent.0 sent.1.items denied told) (c.encode_refusal.ensures there.0 there.2 there.3)))
          (λ sent told. sent_answers server received request sent.0 sent.1.items server there.1 told);
      refused = refusal_of error_of c.unserved.result c.answer_sent.result c.answer_sent.ensures.ok c.answer_sent.ensures.err (λ e. Refuses server received e server) _
          (unserved_err c.encode_refusal.result c.unserved.result _ c.unserved.ensures.ok c.unserved.ensures.err (λ fault. RefusesReply server received request fault server) refl)
          (λ fault told. sent_refuses server received request fault server there.1 told);
      back = λ back. back;
      fixed = λ unguarded. refl;
    }

pub returns-clause-served : goal.returns-clause-served
returns-clause-served g c = c.serve_any.ensures.served (c.allow-may_ask.ensures ∙ ap (is_allowed c.args.self.now.access) c.ip.ensures)

pub returns-clause-refused : goal.returns-clause-refused
returns-clause-refused g c = c.serve_any.ensures.refused (c.allow-may_ask.ensures ∙ ap (is_allowed c.args.self.now.access) c.ip.ensures)

pub returns-clause-back : goal.returns-clause-back
returns-clause-back g c = λ back.
    let old = world_of g.S.TsigSuite.keys g.H.ZoneHandler.view c.args.self.now in
    let new = world_of g.S.TsigSuite.keys g.H.ZoneHandler.view c.serve_any.new.self in
    let received : Received = record { message = c.args.message.now; source = c.args.src; transport = c.args.protocol; now = c.args.now } in
    either c.serve_any.result _ _ (returns-clause-served g c) (returns-clause-refused g c) (λ answer serves. serves_back old received (octets_of answer) new serves back) (λ e refuses. refuses_back old received e new refuses back)

pub returns-clause-fixed : goal.returns-clause-fixed
returns-clause-fixed g c = λ unguarded.
    let old = world_of g.S.TsigSuite.keys g.H.ZoneHandler.view c.args.self.now in
    let new = world_of g.S.TsigSuite.keys g.H.ZoneHandler.view c.serve_any.new.self in
    let received : Received = record { message = c.args.message.now; source = c.args.src; transport = c.args.protocol; now = c.args.now } in
    either c.serve_any.result _ _ (returns-clause-served g c) (returns-clause-refused g c) (λ answer serves. serves_fixed old received (octets_of answer) new serves unguarded) (λ e refuses. refuses_fixed old received e new refuses unguarded)
