use Rattle.std.proofs.Common.{◌≡◌, ◌∙◌, Option, Some, None, ap, map, subst, sym}
use Rattle.std.proofs.lemmas.Option.{none-some}
use Rattle.std.proofs.lemmas.Result.{IfOk-weaker}
use Rattle.std.specs.Prelude.{Bool, List, option_map}
use Rattle.zsv_answer.specs.Transferring.{transferring, zone_context, zone_parts}
use Rattle.zsv_answer.specs.zst_request.Requested.{asked_of, context_of}
use Rattle.zsv_answer.specs.zst_request.Updating.{Asked}
use Rattle.zsv_answer.specs.zst_request.Views.{View}
use Rattle.zsv_answer.specs.zst_request.dnw_name.DomainName.{DomainName}
use Rattle.zsv_answer.specs.zst_request.zst_codes.declared.response_code.ResponseCode.TheVariants as responses
use Rattle.zsv_answer.specs.zsv_reply.Writing.{error_parts}
use Rattle.zsv_answer.specs.zsv_reply.zsv_message.zsv_parts.declared.header.Metadata.{Metadata}
use Rattle.zsv_catalog.specs.Catalogs.{asked_of_transfer, asks_for_dnssec, entry_context, entry_parts}
use Rattle.zsv_update.proofs.Decided.{found_entry, no_entry, some_same}
use Rattle.zsv_update.proofs.zsv_chains_lemmas.Registered.{entry_there, found_itself}
use Rattle.zsv_update.specs.zsv_chains.Chains.{chain_at, views_of}
use Rattle.zsv_update.specs.zsv_chains.zst_key.Ancestors.{nearest_in}
use Rattle.zsv_catalog.proofs.Transferred.{flag_of, same_flag}
use Rattle.zsv_catalog.proofs.transfer.response_to_transfer.Goals as goal

pub returns-in_default-clause-parts : goal.returns-in_default-clause-parts
returns-in_default-clause-parts g c =
    let request = c.args.message.now in
    let r = c.args.received in
    let q = c.args.question.now in
    let asks = asked_of_transfer (g.S.TsigSuite.keys c.args.suite.now) request r.source r.octets.now r.now q in
    let none = no_entry g.H.ZoneHandler.view c.args.chains.now.chains q.name (ap (option_map (λ at. at.0)) (sym c.in_default.is) ∙ c.in_ok-key.ensures.key) in
    c.transfer_error.ensures.parts ∙ ap (λ (m : Metadata). error_parts m responses.Refused) c.metadata-metadata.ensures.value
    ∙ sym (ap (entry_parts request.metadata (asks_for_dnssec request.edns) asks) none)

pub returns-in_default-clause-context : goal.returns-in_default-clause-context
returns-in_default-clause-context g c =
    let request = c.args.message.now in
    let r = c.args.received in
    let q = c.args.question.now in
    let asks = asked_of_transfer (g.S.TsigSuite.keys c.args.suite.now) request r.source r.octets.now r.now q in
    let none = no_entry g.H.ZoneHandler.view c.args.chains.now.chains q.name (ap (option_map (λ at. at.0)) (sym c.in_default.is) ∙ c.in_ok-key.ensures.key) in
    ap (option_map context_of) c.transfer_error.ensures.context ∙ sym (ap (entry_context asks r.now) none)

pub returns-clause-parts : goal.returns-clause-parts
returns-clause-parts g c =
    let view = g.H.ZoneHandler.view in
    let chains = c.args.chains.now.chains in
    let request = c.args.message.now in
    let r = c.args.received in
    let q = c.args.question.now in
    let asks = asked_of_transfer (g.S.TsigSuite.keys c.args.suite.now) request r.source r.octets.now r.now q in
    let d = asks_for_dnssec request.edns in
    let key = c.in-Some.key in
    let first = ap (option_map (λ at. at.0)) (sym c.in-Some.is) ∙ c.in_ok-key.ensures.key in
    let second = ap (option_map (λ at. at.1)) (sym c.in-Some.is) ∙ c.in_ok-key.ensures.name in
    let same : c.in-Some.zone ≡ key = some_same c.in-Some.zone key (second ∙ sym first) in
    let (chain, entry) = found_entry view chains q.name key first in
    let there = entry_there (views_of view chains) q.name (key, chain) entry in
    let handlers = c.in-Some-find_at.handlers.now in
    let found = subst (λ (name : DomainName). option_map (λ handlers. handlers.now) c.find_at.result ≡ option_map (λ handlers. handlers.items) (option_map (λ entry. entry.1) (nearest_in (chain_at chains) name))) c.borrow.ensures c.find_at.ensures in
    let meant = found_itself view chains key (option_map (λ handlers. handlers.now) c.find_at.result) chain found there in
    let is : map view handlers ≡ chain = some_same (map view handlers) chain (subst (λ (o : Option _). option_map (map view) (option_map (λ h. h.now) o) ≡ Some chain) c.in-Some-find_at.is meant) in
    let asked : asked_of c.asked_for_transfer-request.result ≡ asks key = c.asked_for_transfer-request.ensures ∙ ap asks same in
    let flag : c.from_edns-options.result.dnssec_ok ≡ d = c.from_edns-options.ensures ∙ ap flag_of c.edns.ensures ∙ same_flag request.edns in
    let zone = transferring (map view handlers) in
    IfOk-weaker c.transfer_response.result _ _ (λ response told.
    told ∙ ap (λ (m : Metadata). zone_parts m c.from_edns-options.result.dnssec_ok (asked_of c.asked_for_transfer-request.result) zone) c.metadata-metadata.ensures.value
    ∙ ap (λ (b : Bool). zone_parts request.metadata b (asked_of c.asked_for_transfer-request.result) zone) flag
    ∙ ap (λ (a : Asked). zone_parts request.metadata d a zone) asked
    ∙ ap (λ (views : List View). zone_parts request.metadata d (asks key) (transferring views)) is
    ∙ sym (ap (entry_parts request.metadata d asks) entry)) c.transfer_response.ensures.parts

pub returns-clause-context : goal.returns-clause-context
returns-clause-context g c =
    let view = g.H.ZoneHandler.view in
    let chains = c.args.chains.now.chains in
    let request = c.args.message.now in
    let r = c.args.received in
    let q = c.args.question.now in
    let asks = asked_of_transfer (g.S.TsigSuite.keys c.args.suite.now) request r.source r.octets.now r.now q in
    let key = c.in-Some.key in
    let first = ap (option_map (λ at. at.0)) (sym c.in-Some.is) ∙ c.in_ok-key.ensures.key in
    let second = ap (option_map (λ at. at.1)) (sym c.in-Some.is) ∙ c.in_ok-key.ensures.name in
    let same : c.in-Some.zone ≡ key = some_same c.in-Some.zone key (second ∙ sym first) in
    let (chain, entry) = found_entry view chains q.name key first in
    let there = entry_there (views_of view chains) q.name (key, chain) entry in
    let handlers = c.in-Some-find_at.handlers.now in
    let found = subst (λ (name : DomainName). option_map (λ handlers. handlers.now) c.find_at.result ≡ option_map (λ handlers. handlers.items) (option_map (λ entry. entry.1) (nearest_in (chain_at chains) name))) c.borrow.ensures c.find_at.ensures in
    let meant = found_itself view chains key (option_map (λ handlers. handlers.now) c.find_at.result) chain found there in
    let is : map view handlers ≡ chain = some_same (map view handlers) chain (subst (λ (o : Option _). option_map (map view) (option_map (λ h. h.now) o) ≡ Some chain) c.in-Some-find_at.is meant) in
    let asked : asked_of c.asked_for_transfer-request.result ≡ asks key = c.asked_for_transfer-request.ensures ∙ ap asks same in
    IfOk-weaker c.transfer_response.result _ _ (λ response told.
    told ∙ ap (λ (a : Asked). zone_context a r.now (transferring (map view handlers))) asked
    ∙ ap (λ (views : List View). zone_context (asks key) r.now (transferring views)) is
    ∙ sym (ap (entry_context asks r.now) entry)) c.transfer_response.ensures.context

-- There is a chain under the registered name.
pub returns-in_default-find_at-clause-parts : goal.returns-in_default-find_at-clause-parts
returns-in_default-find_at-clause-parts g c =
    let view = g.H.ZoneHandler.view in
    let chains = c.args.chains.now.chains in
    let q = c.args.question.now in
    let key = c.in-Some.key in
    let first = ap (option_map (λ at. at.0)) (sym c.in-Some.is) ∙ c.in_ok-key.ensures.key in
    let (chain, entry) = found_entry view chains q.name key first in
    let there = entry_there (views_of view chains) q.name (key, chain) entry in
    let found = subst (λ (name : DomainName). option_map (λ handlers. handlers.now) c.find_at.result ≡ option_map (λ handlers. handlers.items) (option_map (λ entry. entry.1) (nearest_in (chain_at chains) name))) c.borrow.ensures c.find_at.ensures in
    let meant = found_itself view chains key (option_map (λ handlers. handlers.now) c.find_at.result) chain found there in
    let none : None ≡ Some chain = subst (λ (o : Option _). option_map (map view) (option_map (λ h. h.now) o) ≡ Some chain) c.in_default-find_at.is meant in
    absurd (none-some chain none)

pub returns-in_default-find_at-clause-context : goal.returns-in_default-find_at-clause-context
returns-in_default-find_at-clause-context g c =
    let view = g.H.ZoneHandler.view in
    let chains = c.args.chains.now.chains in
    let q = c.args.question.now in
    let key = c.in-Some.key in
    let first = ap (option_map (λ at. at.0)) (sym c.in-Some.is) ∙ c.in_ok-key.ensures.key in
    let (chain, entry) = found_entry view chains q.name key first in
    let there = entry_there (views_of view chains) q.name (key, chain) entry in
    let found = subst (λ (name : DomainName). option_map (λ handlers. handlers.now) c.find_at.result ≡ option_map (λ handlers. handlers.items) (option_map (λ entry. entry.1) (nearest_in (chain_at chains) name))) c.borrow.ensures c.find_at.ensures in
    let meant = found_itself view chains key (option_map (λ handlers. handlers.now) c.find_at.result) chain found there in
    let none : None ≡ Some chain = subst (λ (o : Option _). option_map (map view) (option_map (λ h. h.now) o) ≡ Some chain) c.in_default-find_at.is meant in
    absurd (none-some chain none)
