use Rattle.std.proofs.Common.{◌≡◌, ◌∙◌, Option, Some, None, ap, map, subst, sym}
use Rattle.std.proofs.lemmas.Option.{none-some}
use Rattle.std.specs.Prelude.{option_map}
use Rattle.zsv_chains.proofs.Registered.{found_itself}
use Rattle.zsv_chains.specs.Chains.{chain_at}
use Rattle.zsv_chains.specs.zst_key.Ancestors.{nearest_in}
use Rattle.zsv_chains.specs.zst_request.Views.{zone_type_of}
use Rattle.zsv_chains.specs.zst_request.dnw_name.DomainName.{DomainName}
use Rattle.zsv_update.specs.Deciding.{first_zone_type}
use Rattle.zsv_update.proofs.Decided.{first_kind, some_same}
use Rattle.zsv_update.proofs.decide.first_type.Goals as goal

pub returns-in_err-find_at : goal.returns-in_err-find_at
returns-in_err-find_at g c chain there =
    let view = g.H.ZoneHandler.view in
    let chains = c.args.chains.now.chains in
    let found = subst (λ (name : DomainName). option_map (λ handlers. handlers.now) c.find_at.result ≡ option_map (λ handlers. handlers.items) (option_map (λ entry. entry.1) (nearest_in (chain_at chains) name))) c.borrow.ensures c.find_at.ensures in
    let meant = found_itself view chains c.args.key.now (option_map (λ handlers. handlers.now) c.find_at.result) chain found there in
    let none : None ≡ Some chain = subst (λ (o : Option _). option_map (map view) (option_map (λ h. h.now) o) ≡ Some chain) c.in_err-find_at.was meant in
    absurd (none-some chain none)

pub returns-in_err-first : goal.returns-in_err-first
returns-in_err-first g c chain there =
    let view = g.H.ZoneHandler.view in
    let chains = c.args.chains.now.chains in
    let handlers = c.in_ok-find_at.field-0.now in
    let found = subst (λ (name : DomainName). option_map (λ handlers. handlers.now) c.find_at.result ≡ option_map (λ handlers. handlers.items) (option_map (λ entry. entry.1) (nearest_in (chain_at chains) name))) c.borrow.ensures c.find_at.ensures in
    let meant = found_itself view chains c.args.key.now (option_map (λ handlers. handlers.now) c.find_at.result) chain found there in
    let is : map view handlers ≡ chain = some_same (map view handlers) chain (subst (λ (o : Option _). option_map (map view) (option_map (λ h. h.now) o) ≡ Some chain) c.in_ok-find_at.was meant) in
    c.from_residual-in_err-first.ensures ∙ ap (option_map (λ h. zone_type_of (view h))) c.in_err-first.ensures.value ∙ sym (first_kind view handlers) ∙ ap first_zone_type is

pub returns : goal.returns
returns g c chain there =
    let view = g.H.ZoneHandler.view in
    let chains = c.args.chains.now.chains in
    let handlers = c.in_ok-find_at.field-0.now in
    let found = subst (λ (name : DomainName). option_map (λ handlers. handlers.now) c.find_at.result ≡ option_map (λ handlers. handlers.items) (option_map (λ entry. entry.1) (nearest_in (chain_at chains) name))) c.borrow.ensures c.find_at.ensures in
    let meant = found_itself view chains c.args.key.now (option_map (λ handlers. handlers.now) c.find_at.result) chain found there in
    let is : map view handlers ≡ chain = some_same (map view handlers) chain (subst (λ (o : Option _). option_map (map view) (option_map (λ h. h.now) o) ≡ Some chain) c.in_ok-find_at.was meant) in
    ap Some c.zone_type.ensures ∙ ap (option_map (λ h. zone_type_of (view h))) c.in_ok-first.ensures.value ∙ sym (first_kind view handlers) ∙ ap first_zone_type is
