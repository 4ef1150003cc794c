use Rattle.std.proofs.Common.{◌∙◌, ap, sym}
use Rattle.std.specs.Prelude.{option_copied}
use Rattle.zst_handler.specs.Found.{cut_at, cut_found}
use Rattle.zst_map.specs.Searches.{lent}
use Rattle.zst_map.proofs.NearestOf.{nearest_here}
use Rattle.zst_map.proofs.zone_sets.ZoneSets.cut_from.Goals as goal

pub returns-in-Some : goal.returns-in-Some
returns-in-Some c =
    ap cut_found (sym (nearest_here (cut_at c.args.self.now) c.args.owner.now (option_copied c.in-Some.cut)
    (sym (c.cut_of.ensures c.args.self.now c.args.owner.now c.requires) ∙ ap lent c.in-Some.is)))
