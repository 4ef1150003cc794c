use Rattle.std.proofs.Common.{◌∙◌, ap, List}
use Rattle.zst_handler.specs.zst_record.RecordSets.{RRset}
use Rattle.zst_handler.specs.Zones.{rrset_at}
use Rattle.zst_map.proofs.zone_sets.ZoneSets.get.Goals as goal

pub returns : goal.returns
returns c = c.get.ensures ∙ ap (λ (sets : List RRset). rrset_at sets c.args.key.now c.args.record_type) c.self.view_is
