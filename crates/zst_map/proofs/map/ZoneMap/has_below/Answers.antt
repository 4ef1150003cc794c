use Rattle.std.proofs.Common.{◌∙◌, ap, sym}
use Rattle.std.specs.Prelude.{false}
use Rattle.zst_key.specs.NameKeys.{name_key}
use Rattle.zst_map.proofs.Kept.{entries_of, from_as, seen_as, zone_of}
use Rattle.zst_map.proofs.ZoneMapsBy.{begins_by, exists_by, from_by_key, sets}
use Rattle.zst_map.proofs.ZoneNodes.{first_begins}
use Rattle.zst_map.proofs.map.ZoneMap.has_below.Goals as goal

pub returns-in-Some : goal.returns-in-Some
returns-in-Some c =
    let owners = c.self.inside.owners in
    let nodes = c.self.inside.nodes in
    let from = from_as nodes c.args.key.now owners.entries ∙ ap (entries_of nodes) (sym (c.range.ensures.between tt) ∙ c.in-Some.ensures.steps) in
    exists_by (entries_of nodes owners.entries) c.args.self.now c.args.key.now c.is_below.result (zone_of nodes owners c.self.invariant) (seen_as nodes owners c.self.invariant c.args.self.now c.self.view_is)
    (sym (ap (first_begins name_key sets (name_key c.args.key.now)) (sym (from_by_key c.args.key.now (entries_of nodes owners.entries)) ∙ from)
    ∙ begins_by c.args.key.now c.in-Some.owner.now c.is_below.result c.is_below.ensures.below))

pub returns-in-None : goal.returns-in-None
returns-in-None c =
    let owners = c.self.inside.owners in
    let nodes = c.self.inside.nodes in
    let from = from_as nodes c.args.key.now owners.entries ∙ ap (entries_of nodes) (sym (c.range.ensures.between tt) ∙ c.in-None.ensures.steps.0) in
    exists_by (entries_of nodes owners.entries) c.args.self.now c.args.key.now false (zone_of nodes owners c.self.invariant) (seen_as nodes owners c.self.invariant c.args.self.now c.self.view_is)
    (sym (ap (first_begins name_key sets (name_key c.args.key.now)) (sym (from_by_key c.args.key.now (entries_of nodes owners.entries)) ∙ from)))
