use Rattle.std.specs.Prelude.{option_copied}
use Rattle.zsv_update.specs.zsv_chains.Chains.{views_of}
use Rattle.zsv_catalog.proofs.RequestsBack.{either, message_refused, message_replied}
use Rattle.zsv_catalog.proofs.catalog.Catalog.reply_to.Goals as goal

pub returns-clause-back : goal.returns-clause-back
returns-clause-back g c = λ servable back.
    let keys = g.S.TsigSuite.keys c.args.self.now.suite in
    let chains = views_of g.H.ZoneHandler.view c.args.self.now.chains.chains in
    let new = views_of g.H.ZoneHandler.view c.reply_by.new.chains.chains in
    let r = c.args.received in
    either c.reply_by.result _ _ c.reply_by.ensures.replied c.reply_by.ensures.refused
    (λ sent told. message_replied keys chains new back (option_copied c.as_ref.result) c.args.message.now r.source r.octets.now r.now r.protocol sent.0 sent.1.items (λ served. servable) told)
    (λ fault told. message_refused keys chains new back c.args.message.now r.source r.octets.now r.now fault servable told)
