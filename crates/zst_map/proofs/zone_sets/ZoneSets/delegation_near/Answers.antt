use Rattle.std.proofs.Common.{◌≡◌, ◌∙◌, ap, sym, List, None}
use Rattle.std.specs.Prelude.{option_copied}
use Rattle.zst_handler.specs.zst_record.RecordSets.{RRset}
use Rattle.zst_handler.specs.Found.{cut_at}
use Rattle.zst_map.specs.Searches.{lent}
use Rattle.zst_map.proofs.Searched.{cut_itself, cut_right_above}
use Rattle.zst_map.proofs.zone_sets.ZoneSets.delegation_near.Goals as goal

pub returns-in-Some : goal.returns-in-Some
returns-in-Some c =
    cut_itself c.args.self.now c.args.key.now c.args.record_type (option_copied c.in-Some.servers) (sym c.if-eq.ensures)
    (sym (c.cut_of.ensures c.args.self.now c.args.key.now c.requires.own) ∙ ap lent c.in-Some.is)

pub returns-in-Some-cut_of : goal.returns-in-Some-cut_of
returns-in-Some-cut_of c =
    let zone = c.args.self.now in
    let none : cut_at zone c.args.key.now ≡ None = sym (c.cut_of.ensures zone c.args.key.now c.requires.own) ∙ ap lent c.in_default.is in
    cut_right_above zone c.args.key.now c.args.record_type (option_copied c.in-Some-cut_of.servers) (sym c.if-eq.ensures) none
    (sym (ap (λ (sets : List RRset). cut_at sets c.args.above.now) c.self.view_is ∙ ap (cut_at zone) c.requires.above)
    ∙ sym (c.cut_of-2.ensures c.self.inside.sets c.args.above.now c.sets_at.ensures) ∙ ap lent c.in-Some-cut_of.is)
