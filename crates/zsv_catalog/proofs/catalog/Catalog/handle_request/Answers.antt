use Rattle.std.specs.Prelude.{option_copied}
use Rattle.zsv_update.specs.zsv_chains.Chains.{views_of}
use Rattle.zsv_catalog.proofs.RequestsBack.{request_refused, request_replied}
use Rattle.zsv_catalog.proofs.catalog.Catalog.handle_request.Goals as goal

pub returns-in_err-sent-clause-back : goal.returns-in_err-sent-clause-back
returns-in_err-sent-clause-back g c = λ servable back.
    let chains = views_of g.H.ZoneHandler.view c.args.self.now.chains.chains in
    let new = views_of g.H.ZoneHandler.view c.reply_to_request.new.chains.chains in
    request_refused (g.S.TsigSuite.keys c.args.self.now.suite) chains new back c.args.request.now servable c.args.now c.in_err-sent.field-0.0 c.in_err-sent.ensures.refused

pub returns-clause-back : goal.returns-clause-back
returns-clause-back g c = λ servable back.
    let chains = views_of g.H.ZoneHandler.view c.args.self.now.chains.chains in
    let new = views_of g.H.ZoneHandler.view c.reply_to_request.new.chains.chains in
    request_replied (g.S.TsigSuite.keys c.args.self.now.suite) chains new back c.args.request.now servable c.args.now (option_copied c.as_ref.result) c.in_ok-sent.sent.0 c.in_ok-sent.sent.1.items
    c.in_ok-sent.ensures.replied
