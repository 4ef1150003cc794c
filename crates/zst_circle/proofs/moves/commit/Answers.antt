use Rattle.std.proofs.Common.{◌≡◌, ◌∙◌, refl, sym, subst, arith, length, List, ◌∷◌, []}
use Rattle.std.specs.List.{AllByRecursion}
use Rattle.std.specs.Vec.Iter.{into_iter_items}
use Rattle.zst_absence.specs.zst_handler.Zones.{rrset_at}
use Rattle.zst_circle.specs.Moves.{CanMove, placeholder_of}
use Rattle.zst_circle.specs.declared.moves.Placeholder.{Placeholder}
use Rattle.zst_circle.proofs.Moving.{Moves, ends, one_turn, starts, still_placed, still_signed, stored_for}
use Rattle.zst_circle.proofs.moves.commit.Goals as goal

nothing_left : {X : Type 0} (xs : List X) → length xs ≡ 0 → xs ≡ []
nothing_left [] e = refl
nothing_left (x ∷ xs) e = absurd (omega (arith, e))

pub placeholders-init : goal.placeholders-init
placeholders-init c =
    let items : into_iter_items c.into_iter-placeholder-iterator.result ≡ c.args.list.items = c.into_iter-placeholder-iterator.ensures.into_iter_gives.0 in (
      subst (AllByRecursion (CanMove c.args.old.now c.args.new.now)) (sym items) c.requires.can,
      λ name t. subst (λ (l : List Placeholder). Moves (placeholder_of c.args.list.items name t) (placeholder_of l name t) (rrset_at c.args.old.now name t) (rrset_at c.args.new.now name t)
          (rrset_at c.args.old.now name t) (rrset_at c.args.new.now name t)) (sym items) (starts (placeholder_of c.args.list.items name t) (rrset_at c.args.old.now name t) (rrset_at c.args.new.now name t)),
      c.requires.ordered,
    )

pub move_one-requires-clause-signed : goal.move_one-requires-clause-signed
move_one-requires-clause-signed c = λ set is.
    let at = c.placeholders in
    let p = c.in-Some.placeholder in
    let step : into_iter_items at.placeholder-iterator ≡ p ∷ into_iter_items c.next.new.self = c.in-Some.ensures.steps.0 in
    let can : CanMove c.args.old.now c.args.new.now p = (subst (AllByRecursion (CanMove c.args.old.now c.args.new.now)) step at.invariant.0).0 in
    still_signed (placeholder_of c.args.list.items p.key p.record_type) (placeholder_of (into_iter_items at.placeholder-iterator) p.key p.record_type)
    (rrset_at c.args.old.now p.key p.record_type) (rrset_at c.args.new.now p.key p.record_type) (rrset_at at.old p.key p.record_type) (rrset_at at.new p.key p.record_type)
    p set can.set can.stored can.signed (at.invariant.1 p.key p.record_type) is

pub move_one-requires-clause-placed : goal.move_one-requires-clause-placed
move_one-requires-clause-placed c = λ set is.
    let at = c.placeholders in
    let p = c.in-Some.placeholder in
    let step : into_iter_items at.placeholder-iterator ≡ p ∷ into_iter_items c.next.new.self = c.in-Some.ensures.steps.0 in
    let can : CanMove c.args.old.now c.args.new.now p = (subst (AllByRecursion (CanMove c.args.old.now c.args.new.now)) step at.invariant.0).0 in
    still_placed (placeholder_of c.args.list.items p.key p.record_type) (placeholder_of (into_iter_items at.placeholder-iterator) p.key p.record_type)
    (rrset_at c.args.old.now p.key p.record_type) (rrset_at c.args.new.now p.key p.record_type) (rrset_at at.old p.key p.record_type) (rrset_at at.new p.key p.record_type)
    set can.placed (at.invariant.1 p.key p.record_type) is

pub placeholders-preserved : goal.placeholders-preserved
placeholders-preserved c =
    let at = c.placeholders in
    let p = c.in-Some.placeholder in
    let later = into_iter_items c.next.new.self in
    let step : into_iter_items at.placeholder-iterator ≡ p ∷ later = c.in-Some.ensures.steps.0 in (
      (subst (AllByRecursion (CanMove c.args.old.now c.args.new.now)) step at.invariant.0).1,
      λ name t. one_turn (placeholder_of c.args.list.items name t) p later (rrset_at c.args.old.now name t) (rrset_at c.args.new.now name t) at.old at.new c.move_one.new.old c.move_one.new.new name t
          (λ q found. stored_for c.args.old.now c.args.new.now c.args.list.items name t q c.requires.can found)
          c.move_one.ensures.taken c.move_one.ensures.moved c.move_one.ensures.unmoved
          (subst (λ (l : List Placeholder). Moves (placeholder_of c.args.list.items name t) (placeholder_of l name t) (rrset_at c.args.old.now name t) (rrset_at c.args.new.now name t)
          (rrset_at at.old name t) (rrset_at at.new name t)) step (at.invariant.1 name t)),
      c.move_one.ensures.ordered at.invariant.2,
    )

pub returns-clause-moved : goal.returns-clause-moved
returns-clause-moved c = λ name t.
    let at = c.placeholders in
    let empty : into_iter_items at.placeholder-iterator ≡ [] = nothing_left (into_iter_items at.placeholder-iterator) (sym at.placeholder-iterator.rest.ok.0 ∙ c.in-None.ensures.steps.0) in
    (ends (placeholder_of c.args.list.items name t) (rrset_at c.args.old.now name t) (rrset_at c.args.new.now name t) (rrset_at at.old name t) (rrset_at at.new name t)
    (subst (λ (l : List Placeholder). Moves (placeholder_of c.args.list.items name t) (placeholder_of l name t) (rrset_at c.args.old.now name t) (rrset_at c.args.new.now name t)
    (rrset_at at.old name t) (rrset_at at.new name t)) empty (at.invariant.1 name t))).0

pub returns-clause-taken : goal.returns-clause-taken
returns-clause-taken c = λ name t.
    let at = c.placeholders in
    let empty : into_iter_items at.placeholder-iterator ≡ [] = nothing_left (into_iter_items at.placeholder-iterator) (sym at.placeholder-iterator.rest.ok.0 ∙ c.in-None.ensures.steps.0) in
    (ends (placeholder_of c.args.list.items name t) (rrset_at c.args.old.now name t) (rrset_at c.args.new.now name t) (rrset_at at.old name t) (rrset_at at.new name t)
    (subst (λ (l : List Placeholder). Moves (placeholder_of c.args.list.items name t) (placeholder_of l name t) (rrset_at c.args.old.now name t) (rrset_at c.args.new.now name t)
    (rrset_at at.old name t) (rrset_at at.new name t)) empty (at.invariant.1 name t))).1
