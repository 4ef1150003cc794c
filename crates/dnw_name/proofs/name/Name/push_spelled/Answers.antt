use Rattle.std.proofs.Common.{◌+◌, ◌≤◌, length, subst, sym}
use Rattle.dnw_name.specs.DomainName.{DomainName, labels_len}
use Rattle.dnw_name.proofs.Lengths.{IsDomainName-spelt}
use Rattle.dnw_name.proofs.name.Name.push_spelled.Goals as goal

pub invariant_of-self : goal.invariant_of-self
invariant_of-self c =
    let short = subst (λ (n : DomainName). labels_len n.labels + length c.args.spelled.now + 1 ≤ 255) (sym c.self.view_is) c.requires.short in
    IsDomainName-spelt c.push_spelled.result c.self.inside.is_fqdn c.self.inside.labels c.push_spelled.new.self c.args.spelled.now
    c.requires.labels short c.push_spelled.ensures.ok c.push_spelled.ensures.err c.self.invariant
