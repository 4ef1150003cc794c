use Rattle.std.proofs.Common.{refl, [], ◌∷◌}
use Rattle.authority_load.proofs.Addresses.{address-split}
use Rattle.authority_load.proofs.text.parse_address.Goals as goal

pub returns-in-Some-clause-value : goal.returns-in-Some-clause-value
returns-in-Some-clause-value c =
    let found = c.in-Some.ensures in
    rw c.from.ensures (found.0 ∷ [], address-split c.args.text.now found.0 c.in-Some.address found.1 found.2, (record { 0 = c.in-Some.address }, refl, (found.2, tt)))
