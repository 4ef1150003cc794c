use Rattle.zst_zone.proofs.Stored.{both_ok, kept_after, put_stored}
use Rattle.zst_zone.proofs.handler.StoredZone.put_at.Goals as goal

pub invariant_of-self : goal.invariant_of-self
invariant_of-self c =
    kept_after c.put.result c.self.inside.origin c.self.inside.origin_key c.self.inside.sets c.put.new.self c.self.invariant c.put.ensures.ordered
    (both_ok c.put.result (λ puts ordered. put_stored c.self.inside.sets c.put.new.self c.args.set puts ordered c.self.invariant.stored c.requires.filled c.as_slice-held.ensures.set) c.put.ensures.ok c.put.ensures.ordered)
    c.put.ensures.err
