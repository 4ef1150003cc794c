use Rattle.std.proofs.Common.{◌≡◌, ◌∙◌, List, Option, Some, None, ap, map, subst, sym}
use Rattle.std.proofs.lemmas.Bool.{true≢false}
use Rattle.std.proofs.lemmas.Option.{none-some}
use Rattle.std.proofs.lemmas.Result.{IfOk-weaker}
use Rattle.std.specs.Prelude.{option_map, unwrap_or}
use Rattle.zsv_answer.specs.Parts.{ChainParts}
use Rattle.zsv_answer.specs.Responses.{parts_of}
use Rattle.zsv_answer.specs.zsv_reply.Writing.{error_parts}
use Rattle.zsv_answer.specs.zst_request.Updating.{Asked}
use Rattle.zsv_answer.specs.zst_request.Views.{View}
use Rattle.zsv_answer.specs.zst_request.dnw_codes.declared.record_type.RecordType.{RecordType}
use Rattle.zsv_answer.specs.zst_request.dnw_name.DomainName.{DomainName}
use Rattle.zsv_answer.specs.zst_request.zst_codes.declared.response_code.ResponseCode.TheVariants as responses
use Rattle.zsv_answer.specs.zsv_reply.zsv_message.zsv_parts.declared.header.Metadata.{Metadata}
use Rattle.zsv_update.specs.zsv_chains.zst_key.Ancestors.{nearest_in}
use Rattle.zsv_update.specs.zsv_chains.Chains.{chain_at, chain_for}
use Rattle.zsv_update.proofs.zsv_chains_lemmas.Chained.{found_views}
use Rattle.zsv_catalog.proofs.reply.question_response.Goals as goal

pub returns-in_default-clause-parts : goal.returns-in_default-clause-parts
returns-in_default-clause-parts g c asks =
    let view = g.H.ZoneHandler.view in
    let chains = c.args.chains.now.chains in
    let name = c.args.question.now.name in
    let found = subst (λ (o : Option _). option_map (λ chain. chain.now) o ≡ option_map (λ chain. chain.items) (chain_for chains name)) c.in_default.is (subst (λ (n : DomainName). option_map (λ chain. chain.now) c.find_at.result ≡ option_map (λ chain. chain.items) (option_map (λ entry. entry.1) (nearest_in (chain_at chains) n))) (c.borrow.ensures ∙ c.in_ok-key.ensures.key) c.find_at.ensures) in
    let none = found_views view chains name None found in
    record {
      no_chain = λ _. subst (λ (m : Metadata). parts_of c.error_response.result ≡ error_parts m responses.Refused) c.metadata-metadata.ensures.value c.error_response.ensures;
      transfer = λ transfer. absurd (true≢false (sym transfer ∙ c.requires));
      looked_up = λ chain is _. absurd (none-some chain (sym none ∙ is));
    }

pub returns-clause-parts : goal.returns-clause-parts
returns-clause-parts g c =
    let view = g.H.ZoneHandler.view in
    let chains = c.args.chains.now.chains in
    let question = c.args.question.now in
    let name = question.name in
    let d = c.args.options.dnssec_ok in
    let means = map view c.in-Some.handlers.now in
    let found = subst (λ (o : Option _). option_map (λ chain. chain.now) o ≡ option_map (λ chain. chain.items) (chain_for chains name)) c.in-Some.is (subst (λ (n : DomainName). option_map (λ chain. chain.now) c.find_at.result ≡ option_map (λ chain. chain.items) (option_map (λ entry. entry.1) (nearest_in (chain_at chains) n))) (c.borrow.ensures ∙ c.in_ok-key.ensures.key) c.find_at.ensures) in
    let some = found_views view chains name (Some c.in-Some.handlers.now) found in
    IfOk-weaker c.chain_response.result _ _ (λ r told asks.
    let by_name = subst (λ (n : DomainName). ChainParts means c.metadata-metadata.result d n c.asked-request.result.query_type (parts_of r)) (ap (λ (a : Asked). a.name) c.asked-request.ensures) told in
    let by_type = subst (λ (t : RecordType). ChainParts means c.metadata-metadata.result d name t (parts_of r)) (ap (λ (a : Asked). a.query_type) c.asked-request.ensures) by_name in
    let shown = subst (λ (m : Metadata). ChainParts means m d name question.query_type (parts_of r)) c.metadata-metadata.ensures.value by_type in
    record {
      no_chain = λ none. absurd (none-some _ (sym none ∙ some));
      transfer = λ transfer. absurd (true≢false (sym transfer ∙ c.requires));
      looked_up = λ chain is other. subst (λ (views : List View). ChainParts views c.args.message.now.metadata d name question.query_type (parts_of r)) (ap (λ (o : Option (List View)). unwrap_or o means) (sym some ∙ is)) shown;
    }) c.chain_response.ensures.parts
