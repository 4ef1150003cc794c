use Rattle.std.proofs.Common.{◌≡◌, subst}
use Rattle.std.specs.Prelude.{option_map}
use Rattle.zst_key.specs.Ancestors.{nearest_in}
use Rattle.zst_key.specs.dnw_name.DomainName.{DomainName}
use Rattle.zsv_chains.specs.Chains.{chain_at}
use Rattle.zsv_chains.proofs.chains.Chains.find.Goals as goal

pub returns : goal.returns
returns g c =
    let chains = c.args.self.now.chains in
    subst (λ (name : DomainName). option_map (λ chain. chain.now) c.find_at.result ≡ option_map (λ chain. chain.items) (option_map (λ entry. entry.1) (nearest_in (chain_at chains) name))) c.of-key.ensures (subst (λ (name : DomainName). option_map (λ chain. chain.now) c.find_at.result ≡ option_map (λ chain. chain.items) (option_map (λ entry. entry.1) (nearest_in (chain_at chains) name))) c.borrow.ensures c.find_at.ensures)
