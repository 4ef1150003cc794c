use Rattle.zst_zone.proofs.Stored.{removed_stored}
use Rattle.zst_zone.proofs.handler.StoredZone.remove_at.Goals as goal

pub invariant_of-self : goal.invariant_of-self
invariant_of-self c = record {
  at = c.self.invariant.at;
  ordered = c.remove.ensures.ordered;
  stored = removed_stored c.self.inside.sets c.remove.new.self c.args.key.now c.args.record_type c.remove.ensures.others c.remove.ensures.ordered c.self.invariant.stored;
}
