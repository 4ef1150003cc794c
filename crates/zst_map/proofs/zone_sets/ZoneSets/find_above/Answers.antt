use Rattle.std.proofs.Common.{◌≡◌, ◌∙◌, ap, sym}
use Rattle.std.specs.Prelude.{List, None}
use Rattle.zst_handler.specs.dnw_name.DomainName.{DomainName}
use Rattle.zst_handler.specs.zst_record.RecordSets.{RRset}
use Rattle.zst_key.specs.Ancestors.{nearest_in, parent}
use Rattle.zst_handler.specs.Lookups.{sets_of_name}
use Rattle.zst_map.specs.ZoneMaps.{owned, some_sets}
use Rattle.zst_map.proofs.NearestOf.{nearest_here}
use Rattle.zst_map.proofs.Owners.{more_sets, nearest_parent, no_sets, some_filled}
use Rattle.zst_map.proofs.zone_sets.ZoneSets.find_above.Goals as goal

-- A step up from a name that owns nothing leads to the same owner.
stepped : (zone : List RRset) (key at above : DomainName) → owned zone at ≡ None → nearest_in (owned zone) key ≡ nearest_in (owned zone) at → above ≡ parent at
    → nearest_in (owned zone) key ≡ nearest_in (owned zone) above
stepped zone key at above none same is = same ∙ nearest_parent zone at none ∙ ap (nearest_in (owned zone)) (sym is)

pub find_below-requires-clause-nearest : goal.find_below-requires-clause-nearest
find_below-requires-clause-nearest c =
    let sets = c.sets_at-sets.result.now in
    let filled = more_sets sets c.is_empty.result c.is_empty.ensures c.if-not-is_empty.true in
    let own = c.sets_at-sets.ensures ∙ ap (λ (z : List RRset). sets_of_name z c.to_parent.new.self) c.self.view_is in
    stepped c.args.self.now c.args.key.now c.levels.above c.to_parent.new.self c.levels.invariant.0 c.levels.invariant.1 c.to_parent.ensures
    ∙ nearest_here (owned c.args.self.now) c.to_parent.new.self sets (ap some_sets (sym own) ∙ some_filled sets filled)

pub levels-preserved : goal.levels-preserved
levels-preserved c =
    let sets = c.sets_at-sets.result.now in
    let own = c.sets_at-sets.ensures ∙ ap (λ (z : List RRset). sets_of_name z c.to_parent.new.self) c.self.view_is in (
      ap some_sets (sym own ∙ no_sets sets c.is_empty.result c.is_empty.ensures c.if-not-is_empty.false),
      stepped c.args.self.now c.args.key.now c.levels.above c.to_parent.new.self c.levels.invariant.0 c.levels.invariant.1 c.to_parent.ensures,
    )
