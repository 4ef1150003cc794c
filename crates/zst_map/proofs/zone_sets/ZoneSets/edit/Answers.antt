use Rattle.std.proofs.Common.{◌∙◌, List, ap}
use Rattle.zst_handler.specs.Zones.{rrset_at}
use Rattle.zst_handler.specs.zst_record.RecordSets.{RRset}
use Rattle.zst_map.proofs.Indexed.{with_edited}
use Rattle.zst_map.specs.Edits.{edited}
use Rattle.zst_map.proofs.zone_sets.ZoneSets.edit.Goals as goal

pub invariant_of-self : goal.invariant_of-self
invariant_of-self c =
    with_edited c.self.inside.index c.self.inside.sets c.edit.new.self c.args.key.now c.args.record_type c.requires.0 (edited c.args.edit c.requires.0) (ap (λ (z : List RRset). rrset_at z c.args.key.now c.args.record_type) c.self.view_is ∙ c.requires.1)
    (c.edit.ensures.others c.requires.0 (ap (λ (z : List RRset). rrset_at z c.args.key.now c.args.record_type) c.self.view_is ∙ c.requires.1) c.requires.2) c.self.invariant
