use Rattle.std.proofs.Common.{◌∙◌, ap, subst, sym}
use Rattle.std.specs.Prelude.{option_copied}
use Rattle.zsv_answer.specs.zsv_reply.zsv_message.Messages.{Message}
use Rattle.zsv_update.proofs.ServedBack.{refused_back, replied_with_back}
use Rattle.zsv_update.specs.ReadingBack.{AdditionsAreServable}
use Rattle.zsv_update.specs.Updates.{with_updates}
use Rattle.zsv_update.specs.zsv_chains.Chains.{views_of}
use Rattle.zsv_catalog.proofs.RequestsBack.{additions_copied}
use Rattle.zsv_catalog.proofs.catalog.Catalog.update.Goals as goal

pub returns-in_err-sent-clause-back : goal.returns-in_err-sent-clause-back
returns-in_err-sent-clause-back g c = λ servable back.
    let chains = views_of g.H.ZoneHandler.view c.args.self.now.chains.chains in
    let new = views_of g.H.ZoneHandler.view c.update_with.new.chains.chains in
    let r = c.received_of.result in
    let own = subst AdditionsAreServable (sym (c.authorities.ensures ∙ ap (λ (m : Message). m.authorities) c.message-message.ensures)) servable in
    refused_back (g.S.TsigSuite.keys c.args.self.now.suite) (with_updates c.message-message.result.now c.in-Ok.updates.items) r.source r.octets.now r.now chains new back
    (additions_copied c.authorities.result.now c.in-Ok.updates.items c.in-Ok.ensures own) c.in_err-sent.field-0.0 c.in_err-sent.ensures.refused

pub returns-clause-back : goal.returns-clause-back
returns-clause-back g c = λ servable back.
    let chains = views_of g.H.ZoneHandler.view c.args.self.now.chains.chains in
    let new = views_of g.H.ZoneHandler.view c.update_with.new.chains.chains in
    let r = c.received_of.result in
    let own = subst AdditionsAreServable (sym (c.authorities.ensures ∙ ap (λ (m : Message). m.authorities) c.message-message.ensures)) servable in
    let told = c.in_ok-sent.ensures.replied in
    replied_with_back (g.S.TsigSuite.keys c.args.self.now.suite) (with_updates c.message-message.result.now c.in-Ok.updates.items) r.source r.octets.now r.now chains new back
    (additions_copied c.authorities.result.now c.in-Ok.updates.items c.in-Ok.ensures own) (option_copied c.args.edns) told.0 told.1
