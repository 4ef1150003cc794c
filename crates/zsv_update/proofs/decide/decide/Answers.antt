use Rattle.std.proofs.Common.{◌≡◌, ◌∙◌, false, List, Some, None, ap, refl, subst, sym}
use Rattle.std.proofs.lemmas.Result.{IfOk-weaker}
use Rattle.std.specs.Prelude.{option_map}
use Rattle.zsv_chains.proofs.Registered.{entry_there}
use Rattle.zsv_chains.specs.Chains.{views_of}
use Rattle.zsv_chains.specs.zst_request.Requested.{asked_of}
use Rattle.zsv_chains.specs.zst_request.Updating.{Asked}
use Rattle.zsv_chains.specs.zst_request.dnw_name.DomainName.{DomainName}
use Rattle.zsv_chains.specs.zst_request.zst_codes.declared.response_code.ResponseCode.TheVariants as responses
use Rattle.zsv_reply.specs.Writing.{reply_metadata}
use Rattle.zsv_reply.specs.zsv_message.zsv_parts.declared.header.Metadata.{Metadata}
use Rattle.zsv_reply.specs.zsv_message.zsv_parts.declared.question.Query.{Query}
use Rattle.zsv_update.specs.Deciding.{DecidesFirst, given_of}
use Rattle.zsv_update.specs.Updates.{GivesUpdate, asked_of_update, outcome_metadata, with_updates}
use Rattle.zsv_update.proofs.Decided.{by_entry, by_external, by_none, by_primary, by_secondary, first_applied, found_entry, is_true, no_entry, one_question, refused_given, some_same}
use Rattle.zsv_update.proofs.decide.decide.Goals as goal

pub returns-in_default-2-clause-gives : goal.returns-in_default-2-clause-gives
returns-in_default-2-clause-gives g c =
    let keys = g.S.TsigSuite.keys c.args.suite.now in
    let request = with_updates c.args.message.now c.args.updates.items in
    let r = c.args.received in
    let chains = views_of g.H.ZoneHandler.view c.args.chains.now.chains in
    let q = c.question-item.result in
    let one = sym (c.queries-2.ensures.value ∙ ap (λ asked. asked.questions) c.queries.ensures) ∙ one_question c.queries-2.result.now q c.in-len1.len_at_least c.in-len1.len_below c.question-item.is in
    let soa = is_true _ (sym c.ne.ensures ∙ c.if-ne.false) in
    let given = given_of c.refused-in_default-2.result chains in
    let none = no_entry g.H.ZoneHandler.view c.args.chains.now.chains q.name (ap (option_map (λ at. at.0)) (sym c.in_default-2.is) ∙ c.in_ok-key.ensures.key) in
    let is = refused_given c.refused-in_default-2.result chains chains _
    (c.refused-in_default-2.ensures.metadata ∙ c.error_header-in_default-2.ensures ∙ ap (λ (m : Metadata). reply_metadata m false responses.ServFail) c.metadata-request.ensures.value) c.refused-in_default-2.ensures.context refl in
    subst (λ (qs : List Query). GivesUpdate keys request r.source r.octets.now r.now chains qs given) (sym one) (by_entry keys request r.source r.octets.now r.now chains q None given soa none is)

pub returns-in-Some-Primary-clause-gives : goal.returns-in-Some-Primary-clause-gives
returns-in-Some-Primary-clause-gives g c =
    let keys = g.S.TsigSuite.keys c.args.suite.now in
    let request = with_updates c.args.message.now c.args.updates.items in
    let r = c.args.received in
    let chains = views_of g.H.ZoneHandler.view c.args.chains.now.chains in
    let new = views_of g.H.ZoneHandler.view c.decide_by_first.new.chains.chains in
    let q = c.question-item.result in
    let key = c.in-Some.key in
    let one = sym (c.queries-2.ensures.value ∙ ap (λ asked. asked.questions) c.queries.ensures) ∙ one_question c.queries-2.result.now q c.in-len1.len_at_least c.in-len1.len_below c.question-item.is in
    let soa = is_true _ (sym c.ne.ensures ∙ c.if-ne.false) in
    let first = ap (option_map (λ at. at.0)) (sym c.in-Some.is) ∙ c.in_ok-key.ensures.key in
    let second = ap (option_map (λ at. at.1)) (sym c.in-Some.is) ∙ c.in_ok-key.ensures.name in
    let same : c.in-Some.zone ≡ key = some_same c.in-Some.zone key (second ∙ sym first) in
    let (chain, entry) = found_entry g.H.ZoneHandler.view c.args.chains.now.chains q.name key first in
    let there = entry_there chains q.name (key, chain) entry in
    let kind = sym (c.first_type.ensures chain there) ∙ c.in-Some-Primary.is ∙ ap Some c.in-Some-Primary.field-0-is in
    let asked : asked_of c.asked-asked.result ≡ asked_of_update keys request r.source r.octets.now r.now q key
    = c.asked-asked.ensures ∙ ap (λ (zone : DomainName). asked_of_update keys request r.source r.octets.now r.now q zone) same in
    IfOk-weaker c.decide_by_first.result _ _ (λ decided decides.
    subst (λ (qs : List Query). GivesUpdate keys request r.source r.octets.now r.now chains qs (given_of decided new)) (sym one)
    (by_entry keys request r.source r.octets.now r.now chains q (Some (key, chain)) (given_of decided new) soa entry
    (by_primary keys request r.source r.octets.now r.now chains q key chain decided new there kind
    (subst (λ (m : Metadata). DecidesFirst m chains key (asked_of_update keys request r.source r.octets.now r.now q key) r.now decided new) c.metadata-request.ensures.value
    (subst (λ (a : Asked). DecidesFirst c.metadata-request.result chains key a r.now decided new) asked decides)))))
    c.decide_by_first.ensures.ok

pub returns-in-Some-Primary-clause-applied : goal.returns-in-Some-Primary-clause-applied
returns-in-Some-Primary-clause-applied g c =
    let chains = views_of g.H.ZoneHandler.view c.args.chains.now.chains in
    let new = views_of g.H.ZoneHandler.view c.decide_by_first.new.chains.chains in
    IfOk-weaker c.decide_by_first.result _ _ (λ decided decides.
    first_applied chains c.in-Some.key c.metadata-request.result (asked_of c.asked-asked.result) c.args.received.now decided new decides)
    c.decide_by_first.ensures.ok

pub returns-in-Some-Secondary-clause-gives : goal.returns-in-Some-Secondary-clause-gives
returns-in-Some-Secondary-clause-gives g c =
    let keys = g.S.TsigSuite.keys c.args.suite.now in
    let request = with_updates c.args.message.now c.args.updates.items in
    let r = c.args.received in
    let chains = views_of g.H.ZoneHandler.view c.args.chains.now.chains in
    let q = c.question-item.result in
    let key = c.in-Some.key in
    let one = sym (c.queries-2.ensures.value ∙ ap (λ asked. asked.questions) c.queries.ensures) ∙ one_question c.queries-2.result.now q c.in-len1.len_at_least c.in-len1.len_below c.question-item.is in
    let soa = is_true _ (sym c.ne.ensures ∙ c.if-ne.false) in
    let (chain, entry) = found_entry g.H.ZoneHandler.view c.args.chains.now.chains q.name key (ap (option_map (λ at. at.0)) (sym c.in-Some.is) ∙ c.in_ok-key.ensures.key) in
    let there = entry_there chains q.name (key, chain) entry in
    let kind = sym (c.first_type.ensures chain there) ∙ c.in-Some-Secondary.is ∙ ap Some c.in-Some-Secondary.field-0-is in
    let given = given_of c.refused-in-Some-Secondary.result chains in
    let is = refused_given c.refused-in-Some-Secondary.result chains chains _ (c.refused-in-Some-Secondary.ensures.metadata ∙ c.outcome_header.ensures ∙ ap (λ (m : Metadata). outcome_metadata m responses.NotImp) c.metadata-request.ensures.value) c.refused-in-Some-Secondary.ensures.context refl in
    subst (λ (qs : List Query). GivesUpdate keys request r.source r.octets.now r.now chains qs given) (sym one)
    (by_entry keys request r.source r.octets.now r.now chains q (Some (key, chain)) given soa entry (by_secondary keys request r.source r.octets.now r.now chains q key chain given there kind is))

pub returns-in-Some-External-clause-gives : goal.returns-in-Some-External-clause-gives
returns-in-Some-External-clause-gives g c =
    let keys = g.S.TsigSuite.keys c.args.suite.now in
    let request = with_updates c.args.message.now c.args.updates.items in
    let r = c.args.received in
    let chains = views_of g.H.ZoneHandler.view c.args.chains.now.chains in
    let q = c.question-item.result in
    let key = c.in-Some.key in
    let one = sym (c.queries-2.ensures.value ∙ ap (λ asked. asked.questions) c.queries.ensures) ∙ one_question c.queries-2.result.now q c.in-len1.len_at_least c.in-len1.len_below c.question-item.is in
    let soa = is_true _ (sym c.ne.ensures ∙ c.if-ne.false) in
    let (chain, entry) = found_entry g.H.ZoneHandler.view c.args.chains.now.chains q.name key (ap (option_map (λ at. at.0)) (sym c.in-Some.is) ∙ c.in_ok-key.ensures.key) in
    let there = entry_there chains q.name (key, chain) entry in
    let kind = sym (c.first_type.ensures chain there) ∙ c.in-Some-External.is ∙ ap Some c.in-Some-External.field-0-is in
    let given = given_of c.refused-in-Some-External.result chains in
    let is = refused_given c.refused-in-Some-External.result chains chains _ (c.refused-in-Some-External.ensures.metadata ∙ c.outcome_header-in-Some-External.ensures ∙ ap (λ (m : Metadata). outcome_metadata m responses.NotAuth) c.metadata-request.ensures.value) c.refused-in-Some-External.ensures.context refl in
    subst (λ (qs : List Query). GivesUpdate keys request r.source r.octets.now r.now chains qs given) (sym one)
    (by_entry keys request r.source r.octets.now r.now chains q (Some (key, chain)) given soa entry (by_external keys request r.source r.octets.now r.now chains q key chain given there kind is))

pub returns-in-None-clause-gives : goal.returns-in-None-clause-gives
returns-in-None-clause-gives g c =
    let keys = g.S.TsigSuite.keys c.args.suite.now in
    let request = with_updates c.args.message.now c.args.updates.items in
    let r = c.args.received in
    let chains = views_of g.H.ZoneHandler.view c.args.chains.now.chains in
    let q = c.question-item.result in
    let key = c.in-Some.key in
    let one = sym (c.queries-2.ensures.value ∙ ap (λ asked. asked.questions) c.queries.ensures) ∙ one_question c.queries-2.result.now q c.in-len1.len_at_least c.in-len1.len_below c.question-item.is in
    let soa = is_true _ (sym c.ne.ensures ∙ c.if-ne.false) in
    let (chain, entry) = found_entry g.H.ZoneHandler.view c.args.chains.now.chains q.name key (ap (option_map (λ at. at.0)) (sym c.in-Some.is) ∙ c.in_ok-key.ensures.key) in
    let there = entry_there chains q.name (key, chain) entry in
    let kind = sym (c.first_type.ensures chain there) ∙ c.in-None.is in
    let given = given_of c.refused-in-None.result chains in
    let is = refused_given c.refused-in-None.result chains chains _ (c.refused-in-None.ensures.metadata ∙ c.error_header-in-None.ensures ∙ ap (λ (m : Metadata). reply_metadata m false responses.ServFail) c.metadata-request.ensures.value) c.refused-in-None.ensures.context refl in
    subst (λ (qs : List Query). GivesUpdate keys request r.source r.octets.now r.now chains qs given) (sym one)
    (by_entry keys request r.source r.octets.now r.now chains q (Some (key, chain)) given soa entry (by_none keys request r.source r.octets.now r.now chains q key chain given kind is))
