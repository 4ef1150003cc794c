use Rattle.zst_map.proofs.Indexed.{with_removed}
use Rattle.zst_map.proofs.zone_sets.ZoneSets.remove.Goals as goal

pub invariant_of-self : goal.invariant_of-self
invariant_of-self c =
    with_removed c.self.inside.index c.unmark.new.self c.self.inside.sets c.remove.new.self c.args.key.now c.args.record_type c.unmark.ensures.kept c.unmark.ensures.cut c.remove.ensures.others c.self.invariant
