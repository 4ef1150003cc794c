use Rattle.std.proofs.Common.{◌≡◌, ◌∙◌, ap, sym, refl, Bool, true, false}
use Rattle.std.specs.Prelude.{not, option_copied}
use Rattle.zst_map.specs.Searches.{lent}
use Rattle.zst_map.proofs.Searched.{cut_itself}
use Rattle.zst_map.proofs.zone_sets.ZoneSets.delegation_at.Goals as goal

not-true : (b : Bool) → not b ≡ true → b ≡ false
not-true true e = sym e
not-true false e = refl

pub returns-in-Some : goal.returns-in-Some
returns-in-Some c =
    cut_itself c.args.self.now c.args.key.now c.args.record_type (option_copied c.in-Some.cut) (not-true _ (sym c.if-ne.ensures))
    (sym (c.cut_of.ensures c.args.self.now c.args.key.now c.requires.own) ∙ ap lent c.in-Some.is)
