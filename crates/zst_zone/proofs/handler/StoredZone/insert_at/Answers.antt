use Rattle.zst_zone.proofs.Stored.{adds_stored, both_ok, kept_after}
use Rattle.zst_zone.proofs.handler.StoredZone.insert_at.Goals as goal

pub invariant_of-self : goal.invariant_of-self
invariant_of-self c =
    kept_after c.add.result c.self.inside.origin c.self.inside.origin_key c.self.inside.sets c.add.new.self c.self.invariant c.add.ensures.ordered
    (both_ok c.add.result (λ adds ordered. adds_stored c.self.inside.sets c.add.new.self c.args.next adds ordered c.self.invariant.stored) c.add.ensures.ok c.add.ensures.ordered)
    c.add.ensures.err
