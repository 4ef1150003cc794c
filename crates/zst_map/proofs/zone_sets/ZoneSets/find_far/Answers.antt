use Rattle.std.proofs.Common.{◌≡◌, ◌∙◌, ap, sym, List}
use Rattle.std.specs.Prelude.{Some, option_map}
use Rattle.zst_handler.specs.zst_record.RecordSets.{RRset}
use Rattle.zst_key.specs.Ancestors.{nearest_in}
use Rattle.zst_handler.specs.Lookups.{sets_of_name}
use Rattle.zst_map.specs.ZoneMaps.{exists_alike, owned}
use Rattle.zst_map.proofs.Owners.{owner_exists, owner_is, owner_sets, owner_there, unowned}
use Rattle.zst_map.proofs.zone_sets.ZoneSets.find_far.Goals as goal

pub find_at-requires : goal.find_at-requires
find_at-requires c =
    let nearest : nearest_in (owned c.self.inside.sets) c.args.key.now ≡ Some (c.in-Some.near.owner.now, c.in-Some.near.sets.now)
    = sym c.in_ok-near.ensures ∙ ap (option_map (λ near. (near.owner.now, near.sets.now))) c.in-Some.is in
    let one = owner_is c.self.inside.sets c.args.key.now c.in-Some.near.owner.now c.in-Some.near.sets.now nearest c.is_below.ensures.lower c.is_below.ensures.lower_other
    (sym c.is_below.ensures.below ∙ c.if-is_below.true) in
    record {
      own = record {
        sets_are = owner_sets c.self.inside.sets c.args.key.now c.in-Some.near.owner.now c.in-Some.near.sets.now nearest ∙ ap (sets_of_name c.self.inside.sets) one
            ∙ ap (λ (z : List RRset). sets_of_name z c.args.key.now) c.self.view_is;
        exists_is = owner_exists c.self.inside.sets c.args.key.now c.in-Some.near.sets.now
            (ap (owned c.self.inside.sets) (sym one) ∙ owner_there c.self.inside.sets c.args.key.now c.in-Some.near.owner.now c.in-Some.near.sets.now nearest)
            ∙ ap (λ (z : List RRset). exists_alike z c.args.key.now) c.self.view_is;
      };
    }

pub find_below-requires-clause-none : goal.find_below-requires-clause-none
find_below-requires-clause-none c =
    let nearest : nearest_in (owned c.self.inside.sets) c.args.key.now ≡ Some (c.in-Some.near.owner.now, c.in-Some.near.sets.now)
    = sym c.in_ok-near.ensures ∙ ap (option_map (λ near. (near.owner.now, near.sets.now))) c.in-Some.is in
    ap (λ (z : List RRset). owned z c.args.key.now) (sym c.self.view_is)
    ∙ unowned c.self.inside.sets c.args.key.now c.in-Some.near.owner.now c.in-Some.near.sets.now nearest (sym c.is_below.ensures.below ∙ c.if-is_below.false)
