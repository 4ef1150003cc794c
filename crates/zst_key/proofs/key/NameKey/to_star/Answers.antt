use Rattle.std.proofs.Common.{◌∙◌}
use Rattle.zst_key.specs.Ancestors.{star}
use Rattle.zst_key.proofs.KeyLemmas.{is-key, lower-itself, name-of-octets, star-lower, star-octets}
use Rattle.zst_key.proofs.key.NameKey.to_star.Goals as goal

pub invariant_of-self-2 : goal.invariant_of-self-2
invariant_of-self-2 c =
    is-key c.extend_from_slice.new.self.items (star c.args.self.now)
    (c.in_ok-extend_from_slice.ensures.ok ∙ star-octets c.self.inside.octets.items c.args.self.now c.self.invariant c.self.view_is)

pub returns-clause-ok : goal.returns-clause-ok
returns-clause-ok c =
    name-of-octets c.extend_from_slice.new.self.items (star c.args.self.now)
    (c.in_ok-extend_from_slice.ensures.ok ∙ star-octets c.self.inside.octets.items c.args.self.now c.self.invariant c.self.view_is)
    (star-lower c.args.self.now (lower-itself c.self.inside.octets.items c.args.self.now c.self.invariant c.self.view_is))
