use Rattle.std.proofs.Common.{◌≡◌, ◌∷◌, arith}
use Rattle.std.proofs.lemmas.Grind.{common_steps}
use Rattle.dnw_name.specs.DomainName.{IsDomainName, domain_name}
use Rattle.dnw_net.specs.dnw_label.Label.{wildcard_label}
use Rattle.dnw_name.proofs.Lengths.{IsDomainName-wildcard}
use Rattle.dnw_name.proofs.name.Name.into_wildcard.Goals as goal

pub invariant_of-result : goal.invariant_of-result
invariant_of-result c =
    let made : c.in_ok-labels.labels ≡ wildcard_label ∷ c.next.new.self = grind (arith, common_steps) in
    let parts : c.self.inside.labels ≡ c.in-Some.field-0.now ∷ c.next.new.self = grind (arith, common_steps) in
    let whole : IsDomainName (domain_name c.self.inside.is_fqdn (c.in-Some.field-0.now ∷ c.next.new.self)) = rw (← parts) c.self.invariant in
    rw made (IsDomainName-wildcard c.self.inside.is_fqdn c.in-Some.field-0.now c.next.new.self whole)
