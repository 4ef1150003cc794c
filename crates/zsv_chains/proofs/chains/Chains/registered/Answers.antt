use Rattle.std.proofs.Common.{◌≡◌, ◌∙◌, ◌-◌, ℕ, Some, Vec, Global, ap, drop, length, sym, subst}
use Rattle.std.proofs.lemmas.List.{length-map}
use Rattle.std.specs.Prelude.{option_map}
use Rattle.std.specs.Str.{str_to_ascii_lowercase}
use Rattle.zst_key.specs.Ancestors.{nearest_in}
use Rattle.zst_key.specs.dnw_name.DomainName.{DomainName, domain_name, lowercase_name}
use Rattle.zsv_chains.specs.Chains.{IsSelfOrAncestor, chain_at}
use Rattle.zsv_chains.proofs.Registered.{found_above, trimmed}
use Rattle.zsv_chains.proofs.chains.Chains.registered.Goals as goal

pub go_up-key-requires-clause-ancestor : goal.go_up-key-requires-clause-ancestor
go_up-key-requires-clause-ancestor g c =
    let at = chain_at c.args.self.now.chains in
    let e = c.in-Some.field-0.now in
    let key = c.in_ok-key.key in
    let near : nearest_in at key ≡ Some e = subst (λ (name : DomainName). nearest_in at name ≡ Some e) c.borrow.ensures (sym c.in-Some.ensures) in
    found_above at key.fqdn key.labels e near

pub go_up-key-requires-clause-labels : goal.go_up-key-requires-clause-labels
go_up-key-requires-clause-labels g c =
    c.len.ensures.value ∙ ap length c.iter.ensures.labels ∙ sym (length-map c.args.name.now.labels str_to_ascii_lowercase) ∙ ap (λ (name : DomainName). length name.labels) (sym c.in_ok-key.ensures.key)

pub returns-clause-name : goal.returns-clause-name
returns-clause-name g c =
    let at = chain_at c.args.self.now.chains in
    let e = c.in-Some.field-0.now in
    let key = c.in_ok-key.key in
    let name = c.args.name.now in
    let near : nearest_in at key ≡ Some e = subst (λ (name : DomainName). nearest_in at name ≡ Some e) c.borrow.ensures (sym c.in-Some.ensures) in
    let above : IsSelfOrAncestor (lowercase_name name) e.0 = subst (λ (n : DomainName). IsSelfOrAncestor n e.0) c.in_ok-key.ensures.key (found_above at key.fqdn key.labels e near) in
    let zone : c.from.result ≡ e.0 = c.from.ensures ∙ ap lowercase_name c.in_ok-registered_name.ensures
    ∙ ap (λ (n : ℕ). lowercase_name (domain_name name.fqdn (drop (length name.labels - n) name.labels))) c.go_up-key.ensures.labels ∙ trimmed name e.0 above in
    ap Some zone ∙ ap (option_map (λ (entry : DomainName × Vec _ Global). entry.0)) (sym near ∙ ap (nearest_in at) c.in_ok-key.ensures.key)
