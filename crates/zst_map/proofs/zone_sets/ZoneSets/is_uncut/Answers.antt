use Rattle.std.proofs.Common.{◌≡◌, ◌∙◌, ap, refl, sym, List}
use Rattle.std.specs.Prelude.{Bool, true, false, not}
use Rattle.zst_handler.specs.zst_record.RecordSets.{RRset}
use Rattle.zst_handler.specs.Found.{delegation}
use Rattle.zst_map.proofs.Searched.{no_delegation}
use Rattle.zst_map.proofs.zone_sets.ZoneSets.is_uncut.Goals as goal

turned : (b : Bool) → not b ≡ true → b ≡ false
turned true e = sym e
turned false e = refl

pub returns : goal.returns
returns c =
    λ uncut name asked.
    sym (ap (λ (zone : List RRset). delegation zone name asked) c.self.view_is)
    ∙ no_delegation c.self.inside.sets (c.self.invariant.uncut (turned c.self.inside.index.has_cuts uncut)) name asked
