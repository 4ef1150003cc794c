use Rattle.zst_map.proofs.Upserted.{adds_of}
use Rattle.zst_map.proofs.zone_sets.ZoneSets.add.Goals as goal

pub returns-clause-ok : goal.returns-clause-ok
returns-clause-ok c = adds_of c.args.self.now c.args.next c.change.new.self c.in_ok-change.ensures.ok
