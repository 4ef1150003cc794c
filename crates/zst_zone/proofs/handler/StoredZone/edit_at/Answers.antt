use Rattle.std.proofs.Common.{◌≡◌, ◌∙◌, ap, refl, subst}
use Rattle.std.specs.Prelude.{Some}
use Rattle.zst_circle.specs.zst_map.Edits.{edited}
use Rattle.zst_circle.specs.zst_handler.Updates.{ZoneReplaces}
use Rattle.zst_circle.specs.zst_handler.Zones.{IsStored, Zone, rrset_at}
use Rattle.zst_zone.proofs.EditedSets.{edited_stored}
use Rattle.zst_zone.proofs.ReadBack.{found_of}
use Rattle.zst_zone.proofs.Stored.{replaces_stored}
use Rattle.zst_zone.proofs.handler.StoredZone.edit_at.Goals as goal

pub invariant_of-self : goal.invariant_of-self
invariant_of-self c =
    let set = c.requires.0 in
    let there = ap (λ (z : Zone). rrset_at z.sets c.args.key.now c.args.record_type) c.self.view_is ∙ c.requires.1 in
    record {
      at = c.self.invariant.at;
      ordered = c.edit.ensures.ordered;
      stored = replaces_stored c.self.inside.sets c.edit.new.self c.args.key.now c.args.record_type (Some (edited c.args.edit set)) (c.edit.ensures.others set there c.requires.2) c.edit.ensures.ordered c.self.invariant.stored
          (λ u is. let g : edited c.args.edit set ≡ u = cc in
          subst IsStored g (edited_stored c.args.edit set c.requires.2 (found_of IsStored c.args.key.now c.args.record_type c.self.inside.sets set c.self.invariant.stored there)));
    }
