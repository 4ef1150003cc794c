use Rattle.std.proofs.Common.{◌∙◌, ap, sym, List}
use Rattle.zst_handler.specs.zst_record.RecordSets.{RRset}
use Rattle.zst_handler.specs.Found.{above}
use Rattle.zst_map.specs.Searches.{looked_for, sought_in}
use Rattle.zst_map.specs.declared.zone_sets.Sought.TheVariants as seeks
use Rattle.zst_map.proofs.Searched.{no_wildcard}
use Rattle.zst_map.proofs.zone_sets.ZoneSets.wildcard.Goals as goal

pub returns-then-is_empty : goal.returns-then-is_empty
returns-then-is_empty c =
    sym (no_wildcard c.self.inside.sets c.self.inside.index.wildcards c.args.key.now c.args.record_type (c.is_empty.ensures.0 c.if-is_empty.true) c.self.invariant.stars)
    ∙ ap (λ (zone : List RRset). looked_for (above (sought_in zone (seeks.Wildcard c.args.record_type)) c.args.key.now)) c.self.view_is
