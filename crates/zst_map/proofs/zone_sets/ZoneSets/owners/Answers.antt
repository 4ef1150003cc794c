use Rattle.std.proofs.Common.{List, subst}
use Rattle.zst_handler.specs.zst_record.RecordSets.{RRset}
use Rattle.zst_map.specs.ZoneMaps.{AreOwners}
use Rattle.zst_map.proofs.zone_sets.ZoneSets.owners.Goals as goal

pub returns : goal.returns
returns c = subst (λ (sets : List RRset). AreOwners sets c.owners.result) c.self.view_is c.owners.ensures
