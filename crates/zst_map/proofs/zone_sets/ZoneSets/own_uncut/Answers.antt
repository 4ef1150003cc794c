use Rattle.std.proofs.Common.{◌∙◌, ap, List}
use Rattle.zst_handler.specs.zst_record.RecordSets.{RRset}
use Rattle.zst_handler.specs.Lookups.{sets_of_name}
use Rattle.zst_map.proofs.Searched.{uncut_found}
use Rattle.zst_map.proofs.zone_sets.ZoneSets.own_uncut.Goals as goal

pub returns : goal.returns
returns c =
    uncut_found c.args.self.now c.args.key.now c.args.record_type c.here.result
    (c.is_uncut.ensures c.if-not-is_uncut.false c.args.key.now c.args.record_type)
    (c.here.ensures c.args.self.now c.args.key.now (c.sets_at.ensures ∙ ap (λ (zone : List RRset). sets_of_name zone c.args.key.now) c.self.view_is))
