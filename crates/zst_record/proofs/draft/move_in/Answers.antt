use Rattle.std.proofs.Common.{◌∙◌, ◌+◌, ◌∷◌, ℕ, List, Option, None, ap, drop, subst, sym}
use Rattle.std.proofs.lemmas.List.{drop_more}
use Rattle.zst_record.proofs.Moving.{Moved, moves_in, stays}
use Rattle.zst_record.proofs.draft.move_in.Goals.{in-Some, in_default}
use Rattle.zst_record.proofs.draft.move_in.Goals as goal

pub places-preserved : goal.places-preserved
places-preserved g c =
    let places = c.args.places.now in
    let next = drop_more places c.places.at None c.places-test.true in
    elim c.match-place.branch [
      | in-Some w ↦
          subst (λ (l : List _). Moved places c.args.items.now c.args.stored.now (c.places.at + 1) l c.match-place.stored) (sym w.items-is)
          (subst (λ (l : List _). Moved places c.args.items.now c.args.stored.now (c.places.at + 1) w.exchange.new.items l) (sym w.stored-is)
          (moves_in places c.args.items.now c.args.stored.now c.places.at w.in-Some.place c.places.items c.places.stored w.exchange.new.items w.exchange.new.stored c.places-test.true
          (next ∙ ap (λ (p : Option ℕ). p ∷ drop (c.places.at + 1) places) w.in-Some.is) w.exchange.ensures c.places.invariant))
      | in_default w ↦
          subst (λ (l : List _). Moved places c.args.items.now c.args.stored.now (c.places.at + 1) l c.match-place.stored) (sym w.items-is)
          (subst (λ (l : List _). Moved places c.args.items.now c.args.stored.now (c.places.at + 1) c.places.items l) (sym w.stored-is)
          (stays places c.args.items.now c.args.stored.now c.places.at c.places.items c.places.stored c.places-test.true
          (next ∙ ap (λ (p : Option ℕ). p ∷ drop (c.places.at + 1) places) w.in_default.is) c.places.invariant))
    ]
