use Rattle.std.proofs.Common.{◌≡◌, ◌∙◌, List, Option, Some, Vec, Global, ap, subst}
use Rattle.std.specs.Prelude.{option_map}
use Rattle.zst_key.specs.Ancestors.{nearest_in}
use Rattle.zst_key.specs.dnw_name.DomainName.{DomainName}
use Rattle.zsv_chains.specs.Chains.{chain_at}
use Rattle.zsv_chains.proofs.chains.Chains.find_at.Goals as goal

abbrev items_of : {H : Type 0} → Option (DomainName × Vec H Global) → Option (List H)
items_of found = option_map (λ chain. chain.items) (option_map (λ entry. entry.1) found)

pub returns-in-Some : goal.returns-in-Some
returns-in-Some g c =
    let chains = c.args.self.now.chains in
    let there = subst (λ (o : Option _). option_map (λ entry. entry.now) o ≡ nearest_in (chain_at chains) c.args.key) c.in-Some.is c.nearest.ensures in
    ap Some c.deref.ensures.value ∙ ap items_of there

pub returns-in-None : goal.returns-in-None
returns-in-None g c =
    let chains = c.args.self.now.chains in
    let there = subst (λ (o : Option _). option_map (λ entry. entry.now) o ≡ nearest_in (chain_at chains) c.args.key) c.in-None.is c.nearest.ensures in
    ap items_of there
