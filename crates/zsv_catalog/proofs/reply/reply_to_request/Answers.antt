use Rattle.std.proofs.Common.{◌∙◌, sym}
use Rattle.std.proofs.lemmas.Result.{IfOk-weaker}
use Rattle.std.specs.Prelude.{option_copied}
use Rattle.zsv_update.specs.zsv_chains.Chains.{views_of}
use Rattle.zsv_catalog.proofs.Updated.{read_plain, read_replied}
use Rattle.zsv_catalog.proofs.reply.reply_to_request.Goals as goal

pub returns-then-is_served_update-clause-replied : goal.returns-then-is_served_update-clause-replied
returns-then-is_served_update-clause-replied g c =
    let chains = views_of g.H.ZoneHandler.view c.args.chains.now.chains in
    let left = views_of g.H.ZoneHandler.view c.update_by.new.chains.chains in
    let served = sym c.is_served_update.ensures ∙ c.if-is_served_update.true in
    let received = c.received_of-arrival in
    IfOk-weaker c.update_by.result _ _ (λ sent told. read_replied chains (option_copied c.args.nsid) (g.S.TsigSuite.keys c.args.suite.now) c.args.request.now c.args.now
    c.message-message.result.now received.result.source received.result.octets.now received.result.protocol received.result.now
    c.message-message.ensures received.ensures.source received.ensures.octets received.ensures.protocol received.ensures.now
    c.authorities.result.now c.in-Ok.updates.items told.0 sent.0 sent.1.items left served c.authorities.ensures c.in-Ok.ensures told.1 told.2) c.update_by.ensures.replied

pub returns-in-Ok-plain_reply-clause-replied : goal.returns-in-Ok-plain_reply-clause-replied
returns-in-Ok-plain_reply-clause-replied g c =
    let chains = views_of g.H.ZoneHandler.view c.args.chains.now.chains in
    let other = sym c.is_served_update.ensures ∙ c.if-is_served_update.false in
    let sent = c.in-Ok-plain_reply.sent in
    let received = c.received_of-arrival in
    read_plain chains (option_copied c.args.nsid) (g.S.TsigSuite.keys c.args.suite.now) c.args.request.now c.args.now
    c.message-message.result.now received.result.source received.result.octets.now received.result.protocol received.result.now
    c.message-message.ensures received.ensures.source received.ensures.octets received.ensures.protocol received.ensures.now
    sent.0 sent.1.items other c.in-Ok-plain_reply.ensures
