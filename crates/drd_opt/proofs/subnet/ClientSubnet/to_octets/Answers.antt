use Rattle.std.proofs.Common.{◌≡◌, ◌+◌, ◌∷◌, ◌++◌, length, take, sym, subst, rules}
use Rattle.std.specs.declared.net.ip_addr.IpAddr.{IpAddr}
use Rattle.drd_opt.specs.Subnets.{family_of, address_octets, prefix_size, subnet_head}
use Rattle.drd_opt.proofs.SubnetLemmas.{octets_from, whole_address}
use Rattle.drd_opt.proofs.subnet.ClientSubnet.to_octets.Goals as goal

pub returns-in-V6-clause-octets : goal.returns-in-V6-clause-octets
returns-in-V6-clause-octets c =
    let o = c.octets-in-V6.result in
    let source = c.args.self.now.source_prefix in
    let scope = c.args.self.now.scope_prefix in
    let n = c.prefix_octets-in-V6.result in
    let long : length o ≡ 16 = search rules in
    subst (λ (x : IpAddr). take (4 + n) (0 ∷ 2 ∷ source ∷ scope ∷ octets_from 0 16 o) ≡ subnet_head (family_of x) source scope ++ take (prefix_size x source) (address_octets x)) (sym c.in-V6.is)
    (whole_address o c.in-V6.address source scope n c.octets-in-V6.ensures long c.prefix_octets-in-V6.ensures.value c.prefix_octets-in-V6.ensures.within)
