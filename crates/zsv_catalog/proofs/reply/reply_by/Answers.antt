use Rattle.std.proofs.Common.{◌∙◌, sym}
use Rattle.std.proofs.lemmas.Result.{IfOk-weaker}
use Rattle.std.specs.Prelude.{option_copied}
use Rattle.zsv_update.specs.zsv_chains.Chains.{views_of}
use Rattle.zsv_catalog.proofs.Updated.{plain_replied, taken_replied}
use Rattle.zsv_catalog.proofs.reply.reply_by.Goals as goal

pub returns-then-is_served_update-clause-replied : goal.returns-then-is_served_update-clause-replied
returns-then-is_served_update-clause-replied g c =
    let chains = views_of g.H.ZoneHandler.view c.args.chains.now.chains in
    let left = views_of g.H.ZoneHandler.view c.update_by.new.chains.chains in
    let served = sym c.is_served_update.ensures ∙ c.if-is_served_update.true in
    let received = c.args.received in
    IfOk-weaker c.update_by.result _ _ (λ sent told. taken_replied chains (option_copied c.args.nsid) (g.S.TsigSuite.keys c.args.suite.now) c.args.message.now
    c.take_authorities-updates.new.self c.take_authorities-updates.result.items c.take_authorities-updates.ensures.after c.take_authorities-updates.ensures.value served
    received.source received.octets.now received.now told.0 received.protocol sent.0 sent.1.items left told.1 told.2) c.update_by.ensures.replied

pub returns-in-Ok-clause-replied : goal.returns-in-Ok-clause-replied
returns-in-Ok-clause-replied g c =
    let chains = views_of g.H.ZoneHandler.view c.args.chains.now.chains in
    let other = sym c.is_served_update.ensures ∙ c.if-is_served_update.false in
    let received = c.args.received in
    plain_replied chains (option_copied c.args.nsid) (g.S.TsigSuite.keys c.args.suite.now) c.args.message.now received.source received.octets.now received.now received.protocol c.in-Ok.sent.0 c.in-Ok.sent.1.items other c.in-Ok.ensures
