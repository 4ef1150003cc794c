use Rattle.std.proofs.Common.{refl, sym, subst, ⊎_elim, Vec, Global}
use Rattle.std.specs.Prelude.{ℕ, Option}
use Rattle.std.proofs.lemmas.Result.{IfOk-weaker, IfErr-weaker}
use Rattle.zsv_catalog.proofs.Asked.{memory_behind_header}
use Rattle.authority_server.specs.declared.server.ServeError.{ServeError}
use Rattle.authority_server.specs.Runs.{octets_of}
use Rattle.authority_server.specs.Servers.{arrived, error_of, world_of}
use Rattle.authority_server.specs.Serving.{Received, Refuses, Serves}
use Rattle.authority_server.proofs.Answered.{answer_of, refusal_of, sent_answers, sent_refuses}
use Rattle.authority_server.proofs.server.Authority.serve_any.Goals as goal

pub returns-in-Err-clause-served : goal.returns-in-Err-clause-served
returns-in-Err-clause-served g c = λ is.
    let server = world_of g.S.TsigSuite.keys g.H.ZoneHandler.view c.args.self.now in
    let (causes, none) = c.in-Err.ensures in
    IfOk-weaker c.answer_refused.result _ _ (λ answer told. subst (λ (a : Option (Vec ℕ Global)). Serves server (arrived c.args.received) (octets_of a) server) (sym told.0)
    (⊎_elim (λ memory. absurd (told.1 memory)) (λ no_message. no_message) none, refl)) c.answer_refused.ensures.none

pub returns-in-Err-clause-refused : goal.returns-in-Err-clause-refused
returns-in-Err-clause-refused g c = λ is.
    let server = world_of g.S.TsigSuite.keys g.H.ZoneHandler.view c.args.self.now in
    let (causes, none) = c.in-Err.ensures in
    IfErr-weaker c.answer_refused.result _ _ (λ e told. subst (λ (f : ServeError). Refuses server (arrived c.args.received) f server) (sym told.0)
    (memory_behind_header c.args.received.octets.now c.in-Err.refused told.1 causes, refl)) c.answer_refused.ensures.memory

pub returns-clause-served : goal.returns-clause-served
returns-clause-served g c = λ is.
    let old = world_of g.S.TsigSuite.keys g.H.ZoneHandler.view c.args.self.now in
    let new = world_of g.S.TsigSuite.keys g.H.ZoneHandler.view c.reply_to.new.self in
    let received : Received = arrived c.args.received in
    answer_of error_of c.reply_to.result c.answer_sent.result c.answer_sent.ensures.ok c.answer_sent.ensures.err (λ answer. Serves old received (octets_of answer) new) _ (c.reply_to.ensures.replied is)
    (λ sent told. sent_answers old received c.in-Ok.request sent.0 sent.1.items new c.in-Ok.ensures told)

pub returns-clause-refused : goal.returns-clause-refused
returns-clause-refused g c = λ is.
    let old = world_of g.S.TsigSuite.keys g.H.ZoneHandler.view c.args.self.now in
    let new = world_of g.S.TsigSuite.keys g.H.ZoneHandler.view c.reply_to.new.self in
    let received : Received = arrived c.args.received in
    refusal_of error_of c.reply_to.result c.answer_sent.result c.answer_sent.ensures.ok c.answer_sent.ensures.err (λ e. Refuses old received e new) _ (c.reply_to.ensures.refused is)
    (λ fault told. sent_refuses old received c.in-Ok.request fault new c.in-Ok.ensures told)
