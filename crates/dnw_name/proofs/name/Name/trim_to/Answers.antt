use Rattle.std.proofs.Common.{◌≡◌, drop, arith}
use Rattle.std.proofs.lemmas.Grind.{common_steps}
use Rattle.dnw_name.proofs.Lengths.{IsDomainName-drop}
use Rattle.dnw_name.proofs.name.Name.trim_to.Goals as goal

pub invariant_of-result : goal.invariant_of-result
invariant_of-result c =
    let last : c.in_ok-labels.labels ≡ drop c.saturating_sub-start.result c.self.inside.labels = grind (arith, common_steps) in
    rw last (IsDomainName-drop c.self.inside.is_fqdn c.self.inside.labels c.saturating_sub-start.result c.self.invariant)
