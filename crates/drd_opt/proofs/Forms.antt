-- Codes and octets without a form of their own.
use Rattle.std.proofs.Common.{◌≡◌, ℕ, ◌↔◌, Bool, true, false, not, List, refl, arith}
use Rattle.std.specs.Prelude.{IsTrue}
use Rattle.drd_opt.specs.Options.{HasNoForm}
use Rattle.drd_opt.specs.Subnets.{SubnetAt}
use Rattle.drd_opt.specs.declared.subnet.ClientSubnet.{ClientSubnet}

pub no_form : (begins : Bool) (number : ℕ) (octets : List ℕ) → number ≡ 8 → (IsTrue begins ↔ ((subnet : ClientSubnet) × (end : ℕ) × SubnetAt octets 0 subnet end)) → IsTrue (not begins) ↔ HasNoForm number octets
no_form true number octets eight is =
    (λ no. absurd (cc no), λ none. let found = is.0 refl in absurd (none.no_subnet eight found.0 found.1 found.2))
no_form false number octets eight is = (
  λ yes. record {
    no_identifier = λ three. omega (arith, three, eight);
    no_algorithms = λ five. omega (arith, five, eight);
    no_subnet = λ same subnet end there. let wrong : false ≡ true = is.1 (subnet, end, there) in absurd (cc wrong);
  },
  λ none. refl,
)
