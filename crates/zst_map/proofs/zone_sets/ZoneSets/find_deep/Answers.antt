use Rattle.std.proofs.Common.{◌≡◌, ◌∙◌, ap, sym}
use Rattle.std.specs.Prelude.{List}
use Rattle.zst_handler.specs.zst_record.RecordSets.{RRset}
use Rattle.zst_handler.specs.Lookups.{sets_of_name}
use Rattle.zst_map.specs.ZoneMaps.{some_sets}
use Rattle.zst_map.proofs.Owners.{more_sets, no_sets, owner_exists, some_filled}
use Rattle.zst_map.proofs.zone_sets.ZoneSets.find_deep.Goals as goal

pub find_above-requires : goal.find_above-requires
find_above-requires c =
    ap (λ (z : List RRset). sets_of_name z c.args.key.now) (sym c.self.view_is)
    ∙ sym c.sets_at-sets.ensures ∙ no_sets c.sets_at-sets.result.now c.is_empty.result c.is_empty.ensures c.if-is_empty.true

pub find_at-requires : goal.find_at-requires
find_at-requires c =
    let sets = c.sets_at-sets.result.now in
    let own : sets ≡ sets_of_name c.args.self.now c.args.key.now = c.sets_at-sets.ensures ∙ ap (λ (z : List RRset). sets_of_name z c.args.key.now) c.self.view_is in
    let filled = more_sets sets c.is_empty.result c.is_empty.ensures c.if-is_empty.false in
    record {
      own = record {
        sets_are = own;
        exists_is = owner_exists c.args.self.now c.args.key.now sets (ap some_sets (sym own) ∙ some_filled sets filled);
      };
    }
