use Rattle.std.proofs.Common.{◌∙◌, ap, sym}
use Rattle.std.specs.Prelude.{option_copied}
use Rattle.zst_map.proofs.zone_sets.ZoneSets.find_uncut.Goals as goal

pub find_unowned-requires-clause-own : goal.find_unowned-requires-clause-own
find_unowned-requires-clause-own c =
    sym (c.here.ensures c.args.self.now c.args.key.now c.requires.own.sets_are) ∙ ap option_copied c.in_default.is
