use Rattle.std.proofs.Common.{◌∙◌, refl, sym}
use Rattle.std.proofs.lemmas.Result.{IfErr-weaker, IfOk-weaker}
use Rattle.zsv_catalog.specs.Chains.{views_of}
use Rattle.authority_server.specs.Servers.{RefusesReply, SendsReply, arrived, world_of}
use Rattle.authority_server.proofs.Answered.{chains_alone, refusal_sent, unserved_err, unserved_ok, zones_refused, zones_sent}
use Rattle.authority_server.proofs.server.Authority.reply_to.Goals as goal

pub returns-then-may_ask-clause-replied : goal.returns-then-may_ask-clause-replied
returns-then-may_ask-clause-replied g c = λ is.
    let view = g.H.ZoneHandler.view in
    let server = c.args.self.now in
    let after = chains_alone g.S.TsigSuite.keys view server.access server.catalog c.reply_to.new.self c.reply_to.ensures.others in
    IfOk-weaker c.reply_to.result _ _ (λ sent told. zones_sent (world_of g.S.TsigSuite.keys view server) (arrived c.args.received) c.args.request.now sent.0 sent.1.items
    (views_of view c.reply_to.new.self.chains.chains) _ (sym is ∙ c.if-may_ask.true) after told) c.reply_to.ensures.replied

pub returns-then-may_ask-clause-refused : goal.returns-then-may_ask-clause-refused
returns-then-may_ask-clause-refused g c = λ is.
    let view = g.H.ZoneHandler.view in
    let server = c.args.self.now in
    let after = chains_alone g.S.TsigSuite.keys view server.access server.catalog c.reply_to.new.self c.reply_to.ensures.others in
    IfErr-weaker c.reply_to.result _ _ (λ fault told. zones_refused (world_of g.S.TsigSuite.keys view server) (arrived c.args.received) c.args.request.now fault
    (views_of view c.reply_to.new.self.chains.chains) _ (sym is ∙ c.if-may_ask.true) after told) c.reply_to.ensures.refused

pub returns-clause-replied : goal.returns-clause-replied
returns-clause-replied g c = λ is.
    let world = world_of g.S.TsigSuite.keys g.H.ZoneHandler.view c.args.self.now in
    unserved_ok c.error_reply.result c.unserved.result _ c.unserved.ensures.ok c.unserved.ensures.err (λ sent. SendsReply world (arrived c.args.received) c.args.request.now sent.0 sent.1.items world)
    (IfOk-weaker c.error_reply.result _ _ (λ sent told. refusal_sent world (arrived c.args.received) c.args.request.now sent.0 sent.1.items (sym is ∙ c.if-may_ask.false) told) c.error_reply.ensures)

pub returns-clause-refused : goal.returns-clause-refused
returns-clause-refused g c = λ is.
    let world = world_of g.S.TsigSuite.keys g.H.ZoneHandler.view c.args.self.now in
    unserved_err c.error_reply.result c.unserved.result _ c.unserved.ensures.ok c.unserved.ensures.err (λ fault. RefusesReply world (arrived c.args.received) c.args.request.now fault world) refl
