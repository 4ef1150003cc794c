use Rattle.std.proofs.Common.{◌≡◌, ◌∙◌, ap, sym}
use Rattle.std.proofs.lemmas.Result.{IfOk-weaker, on_err_weaker}
use Rattle.std.specs.Map.{set_value}
use Rattle.std.specs.Ordering.{is_eq}
use Rattle.std.specs.Prelude.{map, option_map}
use Rattle.zst_key.specs.dnw_name.DomainName.{name_cmp}
use Rattle.zst_request.specs.Requested.{asked_of}
use Rattle.zsv_chains.specs.Chains.{answer_of, views_of, with_chain_at}
use Rattle.zsv_chains.proofs.Chained.{kept_chain, no_chain, put_back, updated_chain}
use Rattle.zsv_chains.proofs.chains.Chains.update_first.Goals as goal

pub returns-in_default-clause-told : goal.returns-in_default-clause-told
returns-in_default-clause-told g c =
    no_chain g.H.ZoneHandler.view c.args.self.now.chains c.replace.new.self c.args.key c.new.result (asked_of c.args.request) c.args.now
    (sym c.in_default.ensures.value) c.in_default.ensures.after

pub returns-clause-told : goal.returns-clause-told
returns-clause-told g c =
    let view = g.H.ZoneHandler.view in
    let chains = c.args.self.now.chains in
    let key = c.args.key in
    let left = c.first_updates-told.new.handlers in
    let after : views_of view c.replace-2.new.self ≡ with_chain_at (views_of view chains) key (map view left.items)
    = ap (views_of view) (c.replace-2.ensures.after ∙ ap (λ es. set_value (λ other. is_eq (name_cmp key other)) es left) c.in-Some.ensures.after)
    ∙ put_back view chains key c.new.result left in
    IfOk-weaker c.first_updates-told.result _ _ (λ given updates.
    updated_chain view chains key c.in-Some.handlers left (views_of view c.replace-2.new.self) (asked_of c.args.request) c.args.now (option_map answer_of given)
    (sym c.in-Some.ensures.value) updates after)
    c.first_updates-told.ensures.told

pub returns-clause-err : goal.returns-clause-err
returns-clause-err g c =
    let view = g.H.ZoneHandler.view in
    let chains = c.args.self.now.chains in
    let key = c.args.key in
    let left = c.first_updates-told.new.handlers in
    let after : views_of view c.replace-2.new.self ≡ with_chain_at (views_of view chains) key (map view left.items)
    = ap (views_of view) (c.replace-2.ensures.after ∙ ap (λ es. set_value (λ other. is_eq (name_cmp key other)) es left) c.in-Some.ensures.after)
    ∙ put_back view chains key c.new.result left in
    on_err_weaker c.first_updates-told.result
    (λ same. kept_chain view chains key c.in-Some.handlers left (views_of view c.replace-2.new.self) (sym c.in-Some.ensures.value) same after)
    c.first_updates-told.ensures.err
