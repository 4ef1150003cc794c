use Rattle.dnw_name.proofs.Lengths.{IsDomainName-lower}
use Rattle.dnw_name.proofs.name.Name.make_lowercase.Goals as goal

pub invariant_of-self : goal.invariant_of-self
invariant_of-self c =
    rw c.make_lowercase.ensures (IsDomainName-lower c.self.inside.is_fqdn c.self.inside.labels c.self.invariant)
