use Rattle.std.proofs.Common.{◌∙◌, ap, sym}
use Rattle.std.specs.Prelude.{option_map}
use Rattle.zst_handler.specs.zst_record.OneOrMany.{items_of}
use Rattle.zst_handler.specs.Stores.{held_sets}
use Rattle.zst_map.proofs.Kept.{entries_of, looked_at, seen_as, sets_named, zone_of}
use Rattle.zst_map.proofs.ZoneMapsBy.{exists_there}
use Rattle.zst_map.proofs.map.ZoneMap.place_at.Goals as goal

pub returns-in-Some : goal.returns-in-Some
returns-in-Some c =
    let owners = c.self.inside.owners in
    let nodes = c.self.inside.nodes in
    let named = sets_named nodes owners c.self.invariant c.args.self.now c.self.view_is c.args.key.now in
    record {
      sets_are = c.as_slice.ensures ∙ ap held_sets c.in-Some.ensures.value ∙ named;
      exists_is = exists_there (entries_of nodes owners.entries) c.args.self.now c.args.key.now (items_of c.in-Some.node.now)
          (zone_of nodes owners c.self.invariant) (seen_as nodes owners c.self.invariant c.args.self.now c.self.view_is)
          (ap (option_map items_of) c.in-Some.ensures.value ∙ sym (looked_at nodes owners c.self.invariant c.args.key.now));
    }

pub returns-in-None : goal.returns-in-None
returns-in-None c =
    record {
      sets_are = ap held_sets c.in-None.ensures.value
          ∙ sets_named c.self.inside.nodes c.self.inside.owners c.self.invariant c.args.self.now c.self.view_is c.args.key.now;
      exists_is = c.has_below.ensures;
    }
